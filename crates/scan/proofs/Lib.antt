-- Laws of the scan.

-- the sums on the way down
pub mod Scanning
