-- Laws of reading a header.

-- bytes are the same as a number's exactly when their number is
pub mod Same
-- what the parts of the header read
pub mod Parts
