pub mod Claims
pub mod Words
pub mod Views
pub mod Rule
pub mod Plays
pub mod Ends
pub mod StepsKeep
