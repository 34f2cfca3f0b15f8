pub mod Tracks
pub mod Columns
pub mod Updates
pub mod Calls
pub mod Answers
pub mod Claims
