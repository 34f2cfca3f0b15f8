-- Laws on texts of digits, and on a loop that writes one.
pub mod Length
pub mod Places
pub mod Room
pub mod PutAt
pub mod Write
pub mod Claim
