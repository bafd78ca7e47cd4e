pub mod Compared
pub mod Told
pub mod Remembers
pub mod Examples
