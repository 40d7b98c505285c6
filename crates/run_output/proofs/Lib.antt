pub mod WritingLemmas
pub mod Outcomes
pub mod PartLemmas
pub mod GatherLemmas
