-- New confirmed records, merged into a table.

-- the new records, and where they go
pub mod New
