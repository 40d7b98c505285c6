pub mod TableLemmas
pub mod LabelLemmas
pub mod StepLemmas
pub mod StateLemmas
pub mod ModeLemmas
pub mod UseLemmas
pub mod NewLemmas
