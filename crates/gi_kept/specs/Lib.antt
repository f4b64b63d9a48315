pub mod Kept
pub mod Truth
pub mod Replies
pub mod Exchanges
pub mod Marks
