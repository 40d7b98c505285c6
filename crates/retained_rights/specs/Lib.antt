pub mod Rules
pub mod Rights
pub mod Claims
pub mod Stored
pub mod Good
