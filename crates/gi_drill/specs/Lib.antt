pub mod Generator
pub mod Instance
pub mod Script
pub mod Counting
pub mod Counted
pub mod Printing
pub mod Laws
