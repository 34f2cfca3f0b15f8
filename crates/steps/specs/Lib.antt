pub mod Times
pub mod Rows
pub mod Slices
pub mod Cases
