pub mod LearningLemmas
pub mod ToldLemmas
