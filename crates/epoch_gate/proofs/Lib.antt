pub mod Passed
pub mod Hands
pub mod Standing
pub mod Ending
