pub mod Kinds
pub mod Dockets
pub mod Laws
pub mod Calls
pub mod Ends
pub mod Changes
pub mod Administering
