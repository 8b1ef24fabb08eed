-- Expiry in a record's bytes.

-- tests and changes of the fields of a record
pub mod Fields
