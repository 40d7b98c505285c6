pub mod Linking
pub mod UseLemmas
pub mod ChangeLemmas
