pub mod Formed
pub mod States
pub mod Rows
pub mod PlainManager
pub mod Honest
pub mod Example
