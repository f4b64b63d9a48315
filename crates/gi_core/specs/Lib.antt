pub mod Content
pub mod Joined
pub mod Slicing
pub mod View
pub mod Ending
pub mod Loads
pub mod Laws
