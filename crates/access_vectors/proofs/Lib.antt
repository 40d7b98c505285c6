pub mod Places
pub mod Members
pub mod MappedLemmas
pub mod StaleLemmas
pub mod ForcedLemmas
