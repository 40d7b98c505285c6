pub mod Gates
pub mod Rights
pub mod ShortLists
pub mod Stations
