pub mod Confined
pub mod Line
