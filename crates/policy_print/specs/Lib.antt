pub mod Printed
pub mod Same
