pub mod Lines
pub mod Holding
pub mod Given
pub mod Words
pub mod Numbers
pub mod Number
pub mod Laws
