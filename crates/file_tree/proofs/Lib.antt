pub mod RowLemmas
pub mod EntryLemmas
pub mod Paths
pub mod TreeLemmas
pub mod PlainLemmas
pub mod BelowLemmas
pub mod FileLemmas
