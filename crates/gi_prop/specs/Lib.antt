pub mod TrailView
pub mod Laid
pub mod Truths
pub mod Watched
pub mod Attached
pub mod Watching
pub mod Steps
pub mod Laws
