-- What the answer of the reading says of the tables.

-- records at a place, over the version
pub mod Places
-- both tables
pub mod Says
