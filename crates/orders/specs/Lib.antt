-- Laws of calls, one after the other: in which order entries and leaves may come, and blocks across a gap.

-- what commutes, and what undoes what
pub mod Orders
-- any number of entries and leaves
pub mod Feeds
-- blocks that list nothing, on the way to a block
pub mod Gaps
-- cases worked out by hand
pub mod Worked
