-- What each command reads and makes, a file a command.
pub mod Serial
pub mod Sdp
pub mod FromSdp
