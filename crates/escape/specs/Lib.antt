pub mod Escape
pub mod Claim
