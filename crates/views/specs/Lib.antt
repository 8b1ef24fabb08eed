-- What the programs print of an input.

-- what is printed of some file
pub mod Read
