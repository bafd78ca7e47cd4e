pub mod Undisturbed
pub mod Wrong
pub mod Blank
