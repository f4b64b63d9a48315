pub mod Told
pub mod Link
pub mod World
pub mod Script
pub mod MemoryState
pub mod StandardState
pub mod Sent
pub mod Outbox
