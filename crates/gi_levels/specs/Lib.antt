pub mod Levels
pub mod Found
pub mod Cycles
pub mod Order
