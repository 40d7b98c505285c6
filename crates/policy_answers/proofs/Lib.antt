pub mod AnswerLemmas
pub mod RelabelLemmas
