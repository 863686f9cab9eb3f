pub mod Places
mod SightLemmas
mod ClosureLemmas
mod StepLemmas
mod ColumnLemmas
mod ArrivalLemmas
mod AutomatonLemmas
pub mod LostLemmas
pub mod WildcardLemmas
pub mod WildcardStateLemmas
pub mod WildcardTableLemmas
pub mod CharacterLemmas
pub mod AlikeTexts
mod PartLemmas
mod TrimmingLemmas
