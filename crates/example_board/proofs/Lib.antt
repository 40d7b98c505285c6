pub mod StepLemmas
pub mod UseLemmas
