pub mod Lessons
pub mod Learning
