-- Laws of a block.

-- what it is that was refused, or was not
pub mod Judged
-- its steps, and that memory is ready for each
pub mod Connecting
