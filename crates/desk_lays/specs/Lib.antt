-- What a line of a script does to the lent memory itself.

-- bytes, counts, and all of it cleared
pub mod Lays
