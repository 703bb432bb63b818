pub mod Ranges
pub mod Items
pub mod Options
pub mod Parts
