pub mod Workers
pub mod Managers
pub mod Runs
