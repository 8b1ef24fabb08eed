-- What a C caller sees.

-- a state in four words
pub mod Words
-- each exported function
pub mod Calls
-- what a refused call leaves
pub mod Refusals
