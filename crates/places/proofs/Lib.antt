-- Laws of records that are moved.

-- the bytes of a record that is taken out or copied
pub mod Pieces
-- records put in the place of others
pub mod Setting
