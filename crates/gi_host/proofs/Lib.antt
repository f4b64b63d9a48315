pub mod Asking
pub mod Visiting
pub mod Hosting
