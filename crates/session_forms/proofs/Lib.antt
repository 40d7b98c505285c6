pub mod WordLemmas
pub mod FormedLemmas
pub mod SetupLemmas
pub mod PathLemmas
pub mod ShortLemmas
