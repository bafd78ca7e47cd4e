pub mod Rooms
pub mod Collected
pub mod Noise
pub mod Claims
pub mod OneByte
pub mod Allowed
pub mod Carried
pub mod Examples
