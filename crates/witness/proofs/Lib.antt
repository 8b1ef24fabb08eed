-- Runs and lives worked out.

-- a run on dirty memory, computed
pub mod Dirty
-- what goes wrong without each premise, computed
pub mod Needed
-- the customer's incident, as a life
pub mod Incident
-- a life with most of what can happen, computed, and the promise of it
pub mod Eventful
-- a run of the wide board, computed, and the promise of it
pub mod Slower
-- what blocks report, computed, and that the bound is reached
pub mod Reports
