pub mod NamedLemmas
pub mod PhaseLemmas
pub mod SeenLemmas
pub mod AskedLemmas
