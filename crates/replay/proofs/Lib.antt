pub mod ScriptLaws
pub mod TranscriptLaws
pub mod BackLaws
pub mod ScriptExamples
pub mod RunLaws
pub mod Corollary
