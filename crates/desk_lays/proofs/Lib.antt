-- Laws of it.

-- what is laid into one of two lists, and into all that is lent
pub mod Laying
-- the rows of the page
pub mod Rows
