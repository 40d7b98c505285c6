pub mod Laws
pub mod Retired
