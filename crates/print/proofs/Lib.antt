-- Laws of text in a buffer.

-- pieces put at a cursor
pub mod Pages
-- the digits of a number
pub mod Digits
-- pieces of text, one after the other
pub mod Pieces
