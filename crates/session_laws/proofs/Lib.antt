pub mod Numbered
pub mod FoundRows
pub mod Tabled
pub mod Gathered
pub mod Lapped
pub mod Sessions
pub mod Joined
pub mod Possible
