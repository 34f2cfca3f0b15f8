-- Laws of checks in turn.
pub mod Checks
-- Laws of the numbers.
pub mod Numbers
