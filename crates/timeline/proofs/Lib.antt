pub mod Doors
pub mod Growing
