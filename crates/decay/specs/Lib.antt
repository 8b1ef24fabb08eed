-- The decay of a row.

-- one row times the factor
pub mod Decay
