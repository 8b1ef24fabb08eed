-- A fresh start.

-- cleared memory holds the fresh estimator
pub mod Starting
