-- Laws of words, parts and pairs in turn.
pub mod Bytes
pub mod At
pub mod Parts
pub mod InTurn
