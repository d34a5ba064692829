pub mod HeaderLaws
pub mod WorkLaws
pub mod ReleaseLaws
