pub mod Serving
pub mod Accounting
pub mod Turning
pub mod Ending
