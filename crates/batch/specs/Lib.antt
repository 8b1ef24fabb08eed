-- The listed ids of a block, all at once.

-- how many confirmed records there will be
pub mod Needed
-- what they leave
pub mod Batch
-- the records that marks pick
pub mod Picked
