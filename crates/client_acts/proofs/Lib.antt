pub mod Newest
pub mod Called
pub mod Told
