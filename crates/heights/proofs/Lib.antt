-- Laws of heights.

-- one height
pub mod Advance
-- heights with no record left
pub mod Bare
-- one height after the other
pub mod Skip
