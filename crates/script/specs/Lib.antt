-- What scripts are made of.

-- words between spaces
pub mod Words
-- numbers in digits
pub mod Digits
-- bytes in pairs of digits
pub mod Hex
-- Adler-32
pub mod Sums
