pub mod Growing
pub mod LawLemmas
