pub mod Asked
pub mod Made
pub mod OriginPointer
pub mod Placed
