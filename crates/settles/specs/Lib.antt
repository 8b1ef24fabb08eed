-- Listed pending records, settled.

-- what settling one leaves, and all
pub mod Settled
