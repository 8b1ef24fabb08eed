-- Laws of the decay.

-- rows that are not stored
pub mod Skipped
-- many times
pub mod Often
