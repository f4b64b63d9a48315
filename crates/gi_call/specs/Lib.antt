pub mod Exchanged
pub mod Called
pub mod MidCall
pub mod Front
pub mod Laws
