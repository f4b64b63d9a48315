pub mod Tape
pub mod Writing
pub mod Gathering
