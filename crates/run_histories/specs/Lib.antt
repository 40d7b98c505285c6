pub mod Changes
pub mod Histories
pub mod Retiring
pub mod Audits
