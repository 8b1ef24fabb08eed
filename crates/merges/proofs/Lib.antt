-- Laws of the merge of new confirmed records.

-- one goes in between those below it and those above it
pub mod Between
-- where it goes in, as a search tells
pub mod Ranks
-- a record that goes in below a block that has moved up
pub mod Opening
-- the table while records go in
pub mod Turns
