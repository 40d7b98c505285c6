pub mod Covered
pub mod Requests
pub mod Honesty
pub mod Operations
