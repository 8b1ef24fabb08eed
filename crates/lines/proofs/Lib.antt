-- Laws of it.

-- the ids of a block
pub mod Listed
-- a line, word by word
pub mod Taking
-- lines and what they ask for, computed
pub mod Examples
