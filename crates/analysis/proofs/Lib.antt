pub mod Systems
pub mod Marks
pub mod Renewing
pub mod Raising
pub mod Times
pub mod Concluding
