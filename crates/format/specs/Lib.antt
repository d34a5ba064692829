pub mod Outcomes
pub mod Requests
