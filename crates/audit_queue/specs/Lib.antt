pub mod Delivery
pub mod Pens
