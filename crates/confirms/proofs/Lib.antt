-- Laws of a block's list.

-- the marks of the listed records
pub mod Marked
-- counts lent beyond the 3,550
pub mod Gained
-- the tables
pub mod Tables
-- all of it
pub mod Together
