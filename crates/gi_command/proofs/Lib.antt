pub mod Paging
pub mod Programs
