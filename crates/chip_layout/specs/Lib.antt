pub mod Layout
pub mod Admission
pub mod InPlace
