-- Laws of room in the confirmed table.

-- the last skipped height decides
pub mod Lasting
-- the loops that count
pub mod Counting
-- a pending record that makes one more
pub mod Adding
-- what is needed, and for whoever judges a block
pub mod Judging
