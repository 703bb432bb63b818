pub mod Line
pub mod Media
pub mod Section
pub mod Fault
pub mod Text
pub mod Made
pub mod Steps
