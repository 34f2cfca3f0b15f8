-- Laws of what the numbers of a sheet say.
pub mod Five
pub mod Said
