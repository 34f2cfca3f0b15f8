pub mod Placements
pub mod Calls
pub mod Answers
pub mod Introspections
