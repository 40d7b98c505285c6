pub mod PolicyLaws
pub mod NumberedLaws
pub mod ClientLaws
pub mod RunLaws
pub mod SessionLaws
pub mod GeneratedLaws
pub mod ExampleLaws
