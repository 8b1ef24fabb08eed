-- A line of a script.

-- what a line asks for
pub mod Lines
