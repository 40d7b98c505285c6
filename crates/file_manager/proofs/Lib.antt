pub mod WalkLemmas
pub mod AfterWalk
