pub mod Bits
pub mod Judged
pub mod Asks
