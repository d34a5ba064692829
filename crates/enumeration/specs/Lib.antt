pub mod Lists
pub mod Choices
pub mod Small
pub mod Statements
pub mod Advances
