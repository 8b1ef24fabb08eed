-- Laws of it.

-- words compared, and the rows of the page
pub mod Naming
