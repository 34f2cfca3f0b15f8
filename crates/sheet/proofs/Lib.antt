-- Laws of sheets that are read, written and built.
pub mod Adds
pub mod Rewrite
pub mod Taken
pub mod Longer
pub mod Stored
pub mod Cases
pub mod Readings
pub mod Claim
