pub mod Device
pub mod Fault
pub mod Memory
pub mod Port
pub mod Rate
