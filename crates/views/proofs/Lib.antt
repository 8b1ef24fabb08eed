-- Laws of what is printed of an input.

-- of the bytes that a reader gives
pub mod Known
