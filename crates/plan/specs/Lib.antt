pub mod Refusals
pub mod Rows
pub mod Rules
pub mod Waits
pub mod Plans
