pub mod FoundSets
pub mod NamedSets
pub mod ListsStand
pub mod SilenceSteps
pub mod RuleAlerts
pub mod RuleLiterals
