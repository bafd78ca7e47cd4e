pub mod Told
pub mod Whole
pub mod Remembers
pub mod Unseen
pub mod Examples
