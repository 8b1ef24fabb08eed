-- Laws of ids among records.

-- the order of ids, byte by byte
pub mod Ids
-- the order of their first words
pub mod First
-- ids that rise
pub mod Rising
-- the loop that judges whether they do
pub mod Climb
-- where the search ends, and what its answer tells
pub mod Search
-- records by number, and their ids
pub mod Records
