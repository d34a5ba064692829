pub mod BeginLaws
pub mod OpenLaws
pub mod WriteStoreLaws
pub mod CommitLaws
pub mod TestedLaws
