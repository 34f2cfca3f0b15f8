pub mod Going
pub mod Items
pub mod Building
pub mod Sequencing
pub mod Patterns
pub mod Claim
