pub mod Runs
pub mod Runners
pub mod Underway
pub mod Recorders
pub mod Opened
