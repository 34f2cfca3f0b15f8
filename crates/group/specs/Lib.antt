pub mod Items
pub mod Sequence
pub mod Stagger
pub mod Group
pub mod Claim
