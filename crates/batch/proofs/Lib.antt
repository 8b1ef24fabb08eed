-- Laws of the listed ids of a block.

-- a list of ids in bytes
pub mod Listing
-- records whose ids rise
pub mod Rising
-- of all skipped heights the last decides
pub mod Skipped
-- how many confirmed records there will be
pub mod Needed
-- tests of lists, one after the other
pub mod Keeping
-- gains in any order
pub mod Gains
-- confirmed records are known by what they hold
pub mod Heights
-- what the confirmed records hold once all are in
pub mod Merging
-- a batch and then another
pub mod Together
-- the listed ids, one by one and all at once
pub mod Batch
-- one listed id in its confirmed record
pub mod Settling
-- the records that marks pick
pub mod Picked
