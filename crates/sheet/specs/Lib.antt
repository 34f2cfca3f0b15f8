pub mod Build
pub mod Stored
pub mod Cases
pub mod Claim
