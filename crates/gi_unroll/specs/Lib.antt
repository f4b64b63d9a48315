pub mod Steps
pub mod Frames
pub mod Choices
pub mod Laws
pub mod OneByOne
pub mod Traces
