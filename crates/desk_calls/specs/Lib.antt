-- What the estimator's calls do for a line of a script.

-- each call's answer, and the state after it
pub mod Calls
