pub mod FirstFaults
pub mod Promises
pub mod SetRefusals
pub mod AcceptedInputs
