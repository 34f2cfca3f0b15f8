pub mod Turns
pub mod Stored
pub mod Claim
