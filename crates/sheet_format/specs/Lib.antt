pub mod Descriptions
pub mod Check
pub mod Write
