-- Laws of orders, from document 01's steps up to the calls.

-- placing and dropping records
pub mod Steps
-- entering and leaving as calls
pub mod Calls
-- any number of them
pub mod Feeds
-- blocks that list nothing, as steps
pub mod Heights
-- and as calls
pub mod Gaps
-- every promise, for either board
pub mod Boards
