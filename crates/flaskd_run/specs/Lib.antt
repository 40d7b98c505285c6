pub mod Reading
pub mod Texts
pub mod Paths
pub mod Threads
pub mod Learning
pub mod Tasks
pub mod Top
pub mod Said
