pub mod Columns
pub mod Completions
pub mod Answers
pub mod Cases
pub mod Prompt
pub mod Claims
