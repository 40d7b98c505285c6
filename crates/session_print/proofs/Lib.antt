pub mod PlaceLaws
pub mod ArgumentLaws
pub mod CallLaws
pub mod FileCallLaws
pub mod ProcessCallLaws
pub mod PortCallLaws
pub mod RunLaws
pub mod SetupLaws
pub mod SetupLinesLaws
pub mod ReadingLaws
pub mod AgainLaws
pub mod PrintedLaws
mod ExampleLaws
