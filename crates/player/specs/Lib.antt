pub mod Loops
pub mod Answered
