-- Laws of it.

-- the rows of the page
pub mod Rows
-- lines and what they do, computed
pub mod Examples
