pub mod Worked
pub mod Touched
pub mod Untouched
pub mod Examples
