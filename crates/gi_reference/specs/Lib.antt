pub mod Found
pub mod View
pub mod Search
pub mod Ends
pub mod Waits
pub mod Loading
