-- Laws of it.

-- digits read one after the other
pub mod Reading
-- pairs of digits
pub mod Hexes
-- words up to a space
pub mod Spaces
-- the sum, byte by byte
pub mod Adler
