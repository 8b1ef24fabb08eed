-- What the answer of the reading says of a header.

-- its last height, or why it is refused
pub mod Says
