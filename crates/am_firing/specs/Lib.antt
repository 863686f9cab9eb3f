pub mod Unreached
pub mod Reach
pub mod Wide
pub mod Deciding
pub mod HidesAll
pub mod Going
pub mod FiringLines
