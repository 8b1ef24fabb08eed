-- What the program's words say.

-- the chain's height
pub mod Words
