pub mod Formed
pub mod Ready
