pub mod Keeping
pub mod Views
pub mod Waiting
