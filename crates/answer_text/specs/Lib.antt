pub mod Replies
pub mod Fronts
pub mod Summaries
