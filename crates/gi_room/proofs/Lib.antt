pub mod Reading
pub mod Turns
pub mod Hearing
pub mod Turning
pub mod Calling
pub mod Marking
pub mod Lacking
pub mod Helping
