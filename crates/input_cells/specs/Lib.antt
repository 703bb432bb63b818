pub mod Faces
pub mod Shapes
pub mod Ticks
pub mod Feeding
pub mod Agreement
pub mod PassesGrow
pub mod Sources
pub mod Looking
