pub mod CommandLaws
pub mod LineLaws
pub mod InspectLaws
pub mod LineExamples
pub mod InspectExamples
