pub mod Linking
pub mod UseLemmas
pub mod ChangeLemmas
pub mod StepLemmas
pub mod LayLemmas
pub mod NewLemmas
