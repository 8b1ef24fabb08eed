-- Laws of what is said of a file beside a chain.

-- what is said is so, by document 01's rules
pub mod Said
