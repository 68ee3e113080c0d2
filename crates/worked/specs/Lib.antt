pub mod Plans
pub mod Sheets
pub mod Analyses
pub mod Touching
pub mod Checks
pub mod Breaches
pub mod Refuted
pub mod Worked
