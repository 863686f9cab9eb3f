pub mod AskOutcome
pub mod Reports
pub mod Explanation
