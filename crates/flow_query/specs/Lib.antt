pub mod Routes
pub mod Hops
pub mod Paths
pub mod Levels
pub mod Reaches
