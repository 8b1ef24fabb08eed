-- The whole life of a caller, whatever is called in between.

-- other memory that a caller may lend in the middle of a run
pub mod Anew
-- any calls in any order, files written and read among them
pub mod Lives
-- demand 3 for whatever meets the contracts of the calls
pub mod Promises
