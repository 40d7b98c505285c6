pub mod Denials
pub mod Grants
pub mod Cells
pub mod Appending
