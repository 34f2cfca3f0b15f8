-- Laws of lines and calls.
pub mod Writing
pub mod Fronts
pub mod Making
pub mod InPlace
pub mod Batches
pub mod Opening
