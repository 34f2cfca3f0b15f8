-- Laws of logs, over any list of turns.
pub mod Fronts
pub mod Turns
pub mod Runs
pub mod Worked
pub mod Before
pub mod Stored
pub mod Claim
