pub mod RunnerLemmas
pub mod OpeningLemmas
pub mod RecorderLemmas
