-- Laws of listed pending records that are settled.

-- one look at the confirmed table
pub mod Renewing
-- one record
pub mod Settling
-- the confirmed table meanwhile
pub mod Raised
-- one after the other
pub mod Passing
