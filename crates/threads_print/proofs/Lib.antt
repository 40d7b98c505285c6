pub mod Parts
pub mod Logged
