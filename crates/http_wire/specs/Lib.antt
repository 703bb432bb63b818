pub mod Fields
pub mod Request
pub mod Head
pub mod Stream
pub mod Scan
pub mod Line
pub mod Found
pub mod Response
