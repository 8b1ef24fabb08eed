-- An estimate.

-- the tests before the scan, and its answer
pub mod Estimating
