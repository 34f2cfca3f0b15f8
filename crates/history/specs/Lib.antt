pub mod Entries
pub mod Invariant
pub mod Claim
pub mod Lent
pub mod InPlace
pub mod Covered
