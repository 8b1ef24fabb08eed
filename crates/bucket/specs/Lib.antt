-- A bucket and the lent slices that hold its counts.

-- that a slice holds the bucket's counts
pub mod Holds
