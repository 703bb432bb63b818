pub mod Core
pub mod Events
pub mod Legal
pub mod Run
pub mod Serial
pub mod Told
