-- Laws of records in any order.

-- each id once, and the loop
pub mod Distinct
-- each id once, and the loop
pub mod Thinning
-- what stood in a table before does not show
pub mod Settling
-- records placed where they stand
pub mod Own
-- the loop that puts records where their ids stand
pub mod Renewing
-- all of it
pub mod Whole
-- records settle alike as bytes and as what the bytes hold
pub mod Bridge
