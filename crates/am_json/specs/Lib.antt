pub mod Json
pub mod Pointer
pub mod Objections
pub mod Reading
pub mod Kept
pub mod OptionalItems
pub mod ReadingLaw
pub mod FormExamples
