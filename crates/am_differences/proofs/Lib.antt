pub mod ValueSteps
pub mod PartSteps
pub mod ListTests
pub mod SameOptions
pub mod SameParts
