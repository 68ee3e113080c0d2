pub mod Kept
pub mod Order
pub mod Rings
pub mod RingLaws
pub mod Ranks
