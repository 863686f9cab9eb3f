pub mod Files
pub mod AskedInstant
pub mod Faults
pub mod Promise
pub mod AcceptedWorld
