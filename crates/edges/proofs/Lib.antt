-- Edges of the public calls.

-- the base board's
mod Base
-- the wide board's
mod Wide
-- they hold
pub mod Hold
