-- What the answer of the reading says of a file.

-- whole files
pub mod Says
