pub mod Names
pub mod Contexts
pub mod SidTables
