pub mod DecodingLaws
pub mod TableLaws
pub mod FileLaws
