-- Laws of the Reader.

-- what stands in bytes that it hands back
pub mod Taken
