pub mod Lists
pub mod Ending
pub mod Making
pub mod Placed
pub mod Going
pub mod Running
pub mod Telling
