pub mod Parsing
pub mod Words
pub mod Ranges
pub mod Pages
pub mod Faults
