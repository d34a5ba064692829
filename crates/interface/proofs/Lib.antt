pub mod SessionLaws
pub mod AnswerExamples
