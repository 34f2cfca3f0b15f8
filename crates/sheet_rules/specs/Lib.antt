pub mod Rules
pub mod Placements
