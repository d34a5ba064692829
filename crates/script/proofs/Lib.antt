pub mod FieldLaws
pub mod KindLaws
pub mod TextLaws
pub mod KindExamples
