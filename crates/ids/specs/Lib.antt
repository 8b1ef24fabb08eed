-- Ids among records.

-- where an id stands or belongs
pub mod Search
-- eight bytes as a number
pub mod Words
