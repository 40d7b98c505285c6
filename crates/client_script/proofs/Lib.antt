pub mod Along
pub mod Steps
pub mod Marks
pub mod Posted
