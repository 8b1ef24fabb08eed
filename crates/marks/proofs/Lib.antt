-- Laws of records that are marked.

-- marks beside a table
pub mod Beside
-- what marking asks for
pub mod Marking
-- the listed ids, one after the other
pub mod Noting
-- the records whose mark is 0
pub mod Dropping
