pub mod Visits
pub mod Hosts
pub mod Laws
