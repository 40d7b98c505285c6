pub mod Stores
pub mod Queues
pub mod Uses
pub mod Laws
