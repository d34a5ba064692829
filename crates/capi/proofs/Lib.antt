pub mod PassLaws
pub mod PassExamples
pub mod CallLaws
