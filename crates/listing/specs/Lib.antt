pub mod Aligned
pub mod Listing
pub mod Memory
pub mod Parts
