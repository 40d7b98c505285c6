pub mod Deciders
pub mod Holders
pub mod Differences
pub mod Changes
pub mod Relabels
