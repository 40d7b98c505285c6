pub mod Growing
pub mod Noticing
