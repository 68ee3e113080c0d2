pub mod Lowest
pub mod Taken
