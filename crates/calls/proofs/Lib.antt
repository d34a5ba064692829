pub mod AnswerLaws
pub mod FactLaws
pub mod WriteFoundLaws
pub mod PageLaws
