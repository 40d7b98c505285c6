pub mod VectorLemmas
pub mod DecidingLemmas
pub mod GrowsLemmas
