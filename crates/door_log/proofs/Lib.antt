-- What a reading adds.
pub mod Reading
