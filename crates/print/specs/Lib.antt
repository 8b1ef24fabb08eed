-- Text in a buffer.

-- a buffer and its cursor
pub mod Page
-- numbers in digits
pub mod Numerals
-- text in ASCII codes
pub mod Text
