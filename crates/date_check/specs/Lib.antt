pub mod Sound
pub mod Verdict
pub mod Keeping
pub mod Fitting
pub mod Cases
