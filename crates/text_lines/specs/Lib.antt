pub mod Lines
pub mod Numerals
pub mod OptionSteps
pub mod ResultSteps
pub mod Refusals
