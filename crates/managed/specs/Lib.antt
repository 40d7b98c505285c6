pub mod Posts
pub mod Seen
pub mod Administered
