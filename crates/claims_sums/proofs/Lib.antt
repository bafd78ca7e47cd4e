pub mod Slots
pub mod Worked
pub mod Touched
pub mod Right
pub mod Untouched
pub mod Silent
pub mod Examples
