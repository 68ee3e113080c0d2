pub mod SampleSheet
pub mod Tried
pub mod Analysed
pub mod TwoSources
pub mod Overdue
pub mod Counterexamples
