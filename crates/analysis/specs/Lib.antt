pub mod Plans
pub mod Answers
pub mod Workings
pub mod Systems
