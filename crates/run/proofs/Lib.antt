pub mod Limits
pub mod Steps
pub mod Unbroken
pub mod Order
pub mod Asks
