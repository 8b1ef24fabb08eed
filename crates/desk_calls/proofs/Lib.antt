-- Laws of it.

-- an id's bytes
pub mod Laid
-- what is said of a call
pub mod Telling
