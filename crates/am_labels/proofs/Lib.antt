mod PatternLemmas
mod PatternJoins
pub mod MatcherTextIndices
pub mod MatcherTextCuts
pub mod MatcherTextSteps
pub mod MatcherTextPieces
pub mod MatcherTextLists
pub mod MatcherTextBodies
pub mod MatcherTextWhole
pub mod BraceListLemmas
pub mod MatcherRefusalLemmas
mod ParsedLabelSetLemmas
pub mod RowLemmas
pub mod RowLawLemmas
pub mod Passing
pub mod OperatorLemmas
pub mod SpaceLaws
pub mod WildcardReading
pub mod WildcardMatches
pub mod WildcardFronts
