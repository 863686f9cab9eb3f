pub mod SameValue
pub mod Options
pub mod Parts
pub mod Differences
pub mod RuleParts
pub mod PartsView
pub mod PartLines
