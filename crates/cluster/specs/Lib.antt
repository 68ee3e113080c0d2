pub mod Breaches
pub mod Places
pub mod Refusals
pub mod States
pub mod Cycles
pub mod Calls
pub mod Runs
