pub mod Input
pub mod Feeding
pub mod Texts
pub mod Commands
pub mod Printing
pub mod Completeness
