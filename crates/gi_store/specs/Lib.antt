pub mod StoreView
pub mod Stored
pub mod Whole
pub mod Laws
pub mod Answers
pub mod Taken
