pub mod Numbers
pub mod LevelLemmas
pub mod WalkLemmas
pub mod NodeLemmas
pub mod ReachLemmas
