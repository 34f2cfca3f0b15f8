pub mod Captions
pub mod Cases
pub mod Claim
