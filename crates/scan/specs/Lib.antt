-- The scan of an estimate.

-- the rules' sums as the scan's record has them
pub mod Sums
