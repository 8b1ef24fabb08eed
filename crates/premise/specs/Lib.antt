-- What is said of a file beside a chain.

-- whether the premise holds, in plain words
pub mod Premise
