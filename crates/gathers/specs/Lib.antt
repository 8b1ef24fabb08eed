-- The bytes of a line.

-- the bytes that a line works on
pub mod Gathers
