pub mod Starts
pub mod Seating
