pub mod Distinct
pub mod Slots
