-- Laws of expiry.

-- the loop that changes each record
pub mod Changing
-- resolved-through raised in a record's bytes
pub mod Fields
-- the passes as the rules' steps
pub mod Steps
-- expiry counted, record after record
pub mod Expiry
