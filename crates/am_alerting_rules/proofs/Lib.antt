pub mod Templates
pub mod LabelsBelow
pub mod RulesSays
pub mod RulesLaws
pub mod RulesExample
pub mod RuleTexts
pub mod FixedLabels
