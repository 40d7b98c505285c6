pub mod Stores
pub mod Uses
pub mod Laws
