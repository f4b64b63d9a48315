pub mod Kept
pub mod Shutting
pub mod Outcome
pub mod Output
pub mod Solving
pub mod Drilling
pub mod Performing
pub mod Starting
