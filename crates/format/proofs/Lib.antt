pub mod RequestLaws
pub mod LayoutLaws
pub mod FormatLaws
