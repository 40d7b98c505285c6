pub mod PrintingLemmas
pub mod TextLemmas
