pub mod Noise
pub mod Claims
pub mod Examples
