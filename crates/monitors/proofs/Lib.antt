pub mod Levels
pub mod Runs
pub mod Peaks
pub mod Silences
pub mod Sounds
pub mod Showing
pub mod Walks
pub use Rattle.exact_text.proofs.Growth.{growth}
