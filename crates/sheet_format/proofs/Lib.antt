-- Laws of sheets: words, stores, parts, the turns of the loops, and the round trips.
pub mod Chunks
pub mod Stores
pub mod Filling
pub mod Accepted
pub mod InTurn
pub mod Turns
pub mod Lefts
pub mod Sheets
pub mod Typed
pub mod ReadBack
