pub mod CellLemmas
pub mod GrantLemmas
pub mod VectorLemmas
pub mod MemberLemmas
pub mod LineLemmas
pub mod LearnedLemmas
