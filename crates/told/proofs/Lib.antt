-- What a caller learns of the compiled calls is what demand 3 asks for.
pub mod Told
