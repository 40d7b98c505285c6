pub mod WordLaws
pub mod LineLaws
pub mod NumeralLaws
pub mod NameLaws
pub mod LeadLaws
pub mod FrontLaws
