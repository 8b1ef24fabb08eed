-- What is printed of a file.

-- its words
pub mod Words
-- its lines
pub mod Shown
-- the text of what an estimate answers
pub mod Rates
