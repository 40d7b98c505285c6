pub mod One
pub mod SessionStates
pub mod SessionViews
pub mod Standings
