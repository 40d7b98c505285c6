pub mod Walks
pub mod Receipts
pub mod Placing
pub mod Noticing
pub mod Acknowledging
pub mod Serving
