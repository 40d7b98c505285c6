pub mod Serial
pub mod Printing
