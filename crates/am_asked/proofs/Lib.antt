pub mod PlacedSteps
pub mod PlacedMatchers
pub mod AskedLemmas
pub mod EqualMatchers
pub mod Undeclared
pub mod MatcherPlaces
