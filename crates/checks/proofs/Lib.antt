pub mod VerdictLaws
pub mod WriteVerdictLaws
