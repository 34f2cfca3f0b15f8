-- Laws of venue lists and captions.
pub mod Turns
pub mod Numbers
pub mod Inside
pub mod First
pub mod Labels
pub mod Claim
pub mod Parts
