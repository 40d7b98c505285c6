pub mod Declarations
pub mod Matching
pub mod Deciding
pub mod Kept
