-- Laws of reading the tables.

-- what the tables read
pub mod Reading
