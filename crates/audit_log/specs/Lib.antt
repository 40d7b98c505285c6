pub mod Audited
pub mod Logs
pub mod Texts
