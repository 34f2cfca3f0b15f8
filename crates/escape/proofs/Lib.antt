-- Laws on escaped texts.
pub mod Plain
pub mod Text
pub mod Claim
