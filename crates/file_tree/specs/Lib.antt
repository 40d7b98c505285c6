pub mod Shelves
pub mod Nodes
pub mod Bytes
pub mod PlainTree
