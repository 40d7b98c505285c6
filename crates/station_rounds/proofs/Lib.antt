pub mod Empty
pub mod Lists
pub mod Crossing
