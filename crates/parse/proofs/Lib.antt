-- Laws of reading a file.

-- what putting the header leaves
pub mod Putting
-- the file, told by places
pub mod Whole
-- its tables good or bad
pub mod Judged
-- what is known of a file that was read
pub mod Held
