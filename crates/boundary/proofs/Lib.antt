-- Laws of the C ABI.

-- a state in words
pub mod Words
-- the bucket of a rate, as a number
pub mod Lookup
-- what a caller sees, said of the calls below
pub mod Calls
-- what a refused call leaves
pub mod Refusals
