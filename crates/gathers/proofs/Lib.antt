-- Laws of it.

-- the bytes of a word, and of ids
pub mod Gathering
-- lines and the bytes that they put, computed
pub mod Gathered
