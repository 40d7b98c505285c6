pub mod Stores
pub mod Uses
pub mod Laying
pub mod Laws
