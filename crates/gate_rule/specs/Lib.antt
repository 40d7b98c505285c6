pub mod History
pub mod Meaning
pub mod Tickets
pub mod Passes
pub mod Rows
pub mod Views
pub mod Rule
pub mod Told
