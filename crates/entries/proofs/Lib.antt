-- Entering and leaving.

-- each answer is the definition's
pub mod Answered
