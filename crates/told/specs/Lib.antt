-- Demand 3, of the compiled calls.

-- a life of which each step is a call of the compiled library
pub mod Called
