pub mod ShelfState
pub mod Puts
pub mod Shelves
pub mod ClosedLines
pub mod Connection
pub mod Accounts
pub mod HasServed
pub mod Turns
