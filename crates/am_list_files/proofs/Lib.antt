mod SeenValueLemmas
pub mod UniverseSays
pub mod UniverseTexts
pub mod UniverseLaws
pub mod Matching
pub mod MatcherTexts
pub mod SilencesSays
pub mod SilencesExample
pub mod SilencesLaws
pub mod NamedTextLemmas
pub mod AlertsSays
pub mod AlertsExample
pub mod AlertsLaws
