pub mod Lift
pub mod Told
