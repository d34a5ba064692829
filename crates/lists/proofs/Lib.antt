pub mod ListLaws
pub mod SearchLaws
pub mod TestLaws
pub mod CaseLaws
pub mod CountLaws
pub mod RangeLaws
