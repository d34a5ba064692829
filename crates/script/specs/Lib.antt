pub mod Fields
pub mod Kinds
pub mod Texts
