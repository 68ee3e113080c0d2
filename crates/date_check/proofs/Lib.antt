pub mod Reading
pub mod Every
pub mod Sums
pub mod Counting
pub mod Limits
pub mod Finishing
pub mod Passing
pub mod Independence
