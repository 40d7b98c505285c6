pub mod PlainManager
pub mod Honest
pub mod Boards
pub mod Laws
pub mod Serving
