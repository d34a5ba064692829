pub mod Header
pub mod Tested
