pub mod Tick
pub mod Time
pub mod Unit
