pub mod RulesFile
pub mod RulesForm
pub mod RuleAlerts
pub mod RuleView
pub mod RuleTexts
pub mod RulesExample
pub mod FaultExamples
