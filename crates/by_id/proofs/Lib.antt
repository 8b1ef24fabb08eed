-- Laws of records by their id.

-- one table, searched and edited by an id
pub mod ById
