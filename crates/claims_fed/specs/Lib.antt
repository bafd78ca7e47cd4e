pub mod Awaits
pub mod Fed
