pub mod Totals
pub mod Lists
pub mod Fitting
pub mod Steps
pub mod Publishing
pub mod Seats
pub mod Ends
