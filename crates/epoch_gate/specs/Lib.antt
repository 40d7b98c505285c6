pub mod Seats
pub mod Known
pub mod Calls
pub mod Opening
