pub mod Words
pub mod CallWords
pub mod Printed
pub mod Same
