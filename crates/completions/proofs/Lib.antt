-- Laws of the walk's definitions that the functions' proofs cite.
pub mod Cases
pub mod Cycle
pub mod Cycles
pub mod Empty
pub mod Numbers
pub mod Ends
pub mod Columns
pub mod ColumnTurns
pub mod Answers
pub mod Drift
pub mod Starts
pub mod Fuel
pub mod Turns
pub mod InRange
pub mod Longest
pub mod Prompt
pub mod Claims
