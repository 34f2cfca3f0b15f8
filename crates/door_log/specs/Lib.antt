-- What was read of the script.
pub mod Unread
