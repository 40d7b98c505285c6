pub mod Walks
pub mod Explained
pub mod Moves
