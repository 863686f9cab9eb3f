pub mod Groups
pub mod Requests
