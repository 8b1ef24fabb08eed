-- Room in the confirmed table.

-- what the code asks of a record
pub mod Room
