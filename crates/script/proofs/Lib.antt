-- Laws of the calls of a script.
pub mod Making
