-- Laws of a block judged.

-- its tests, one after the other
pub mod Judging
