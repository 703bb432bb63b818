pub mod Rows
pub mod Bench
pub mod Faces
pub mod Told
pub mod Gathering
pub mod Lending
pub mod Jobs
