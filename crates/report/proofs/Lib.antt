-- Laws of what is printed of a file.

-- pieces written one after the other
pub mod Pieces
-- the lines of the targets
pub mod Targets
-- there is room for all that is told
pub mod Short
-- what an estimate answers after a reading is the estimate itself
pub mod Answered
-- what a table held does not matter
pub mod Alike
-- the board that a file names
pub mod Named
-- the whole: what is put is what is shown
pub mod Reported
-- `show` never says Damaged or NoRoom
pub mod Never
