pub mod Sent
pub mod Bytes
pub mod Written
pub mod Cleared
pub mod Examples
