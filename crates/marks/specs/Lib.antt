-- Records that are marked.

-- marks beside a table
pub mod Marks
