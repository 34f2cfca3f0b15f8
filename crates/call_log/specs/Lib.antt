pub mod Lines
pub mod Logs
pub mod Machine
