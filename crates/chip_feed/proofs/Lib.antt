pub mod Feeding
pub mod Stretching
