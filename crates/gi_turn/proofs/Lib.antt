pub mod Views
pub mod Turns
pub mod Numbers
pub mod Marks
pub mod Kinship
pub mod Steps
pub mod Waiting
pub mod Entering
