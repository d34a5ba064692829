pub mod RunLaws
pub mod MadeLaws
pub mod RunExamples
