-- What is read into a buffer.

-- the bytes of an input that fit
pub mod Filled
