pub mod Core
pub mod Awaited
pub mod Effects
pub mod Collected
pub mod Stays
pub mod Rooms
pub mod Fresh
