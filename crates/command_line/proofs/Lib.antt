mod ParserLemmas
mod PlaceLemmas
mod TextLemmas
pub mod RangeLemmas
