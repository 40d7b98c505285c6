pub mod WordLemmas
pub mod BitLemmas
pub mod SetLemmas
pub mod RowLemmas
pub mod SlotLemmas
pub mod RangeLemmas
