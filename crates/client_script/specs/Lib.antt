pub mod Scripts
pub mod Clients
pub mod Underway
pub mod Audits
