pub mod Outside
pub mod Confined
pub mod Line
