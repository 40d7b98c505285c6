pub mod Giving
pub mod Asking
pub mod Noticing
pub mod Explaining
pub mod Walking
