-- Each id once.

-- of neighbours with one id the first stays
pub mod Once
