pub mod Cuts
pub mod ContextLemmas
pub mod SidLemmas
