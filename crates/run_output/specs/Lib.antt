pub mod Writing
pub mod Logged
pub mod Gathering
