pub mod Events
pub mod Counts
pub mod Meaning
pub mod Laws
pub mod Answers
pub mod Fair
pub mod Held
pub mod Given
