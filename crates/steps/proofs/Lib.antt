pub mod Zero
pub mod Inside
pub mod Lists
pub mod KindBound
pub mod Cases
