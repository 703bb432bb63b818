pub mod Inputs
pub mod Numbers
pub mod Descriptions
pub mod Straight
pub mod MadeCaptures
pub mod Parts
pub mod Tables
pub mod Ends
