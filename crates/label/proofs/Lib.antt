pub mod Text
pub mod SameText
pub mod First
