-- The scripts' page.

-- its words, in ASCII codes
pub mod Words
-- its operations and their fields
pub mod Page
