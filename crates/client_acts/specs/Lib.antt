pub mod Acts
pub mod Standings
pub mod Moves
pub mod Audits
