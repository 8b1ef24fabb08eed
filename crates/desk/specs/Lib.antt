-- What a line of a script does.

-- to all of the lent memory, and to the state
pub mod Desk
