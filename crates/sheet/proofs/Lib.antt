pub mod Texts
pub mod Justified
pub mod Exact
pub mod Splits
pub mod Inverses
pub mod Stepping
