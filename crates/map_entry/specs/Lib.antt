pub mod Action
pub mod Entry
pub mod Row
pub mod Setup
pub mod Tick
