-- Laws of one bucket's counts.

-- how the counts of a row are tested
pub mod Tests
