-- Laws that the functions' proofs cite.
pub mod Xor
pub mod Table
