pub mod Match
pub mod Table
pub mod Paths
pub mod Targets
pub mod Wrongs
pub mod Plan
pub mod Answer
