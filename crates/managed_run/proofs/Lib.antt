pub mod Reading
pub mod Keeping
pub mod Serving
pub mod Changing
pub mod Administering
