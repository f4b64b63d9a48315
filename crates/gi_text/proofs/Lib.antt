pub mod LineAt
pub mod Dropping
pub mod Held
pub mod Fronts
pub mod Splits
pub mod WordRuns
pub mod Spellings
pub mod Magnitudes
