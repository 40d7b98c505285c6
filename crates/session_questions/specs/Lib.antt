pub mod LineRuns
pub mod Keeping
