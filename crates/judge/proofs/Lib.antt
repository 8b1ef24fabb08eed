-- Laws of judging.

-- the code's test of a count is the rules'
pub mod Soundness
-- the code's test of a table is the rules'
pub mod Records
