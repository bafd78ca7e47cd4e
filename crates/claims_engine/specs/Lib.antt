pub mod Feeding
pub mod Claims
pub mod Examples
