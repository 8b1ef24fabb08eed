-- Demand 3 in any life.

-- memory that is lent anew
pub mod Anew
-- the calls that change nothing change nothing
pub mod Lives
-- whatever meets the contracts leads where the definitions lead
pub mod Link
-- every promise, for either board and its own version of the file
pub mod Boards
