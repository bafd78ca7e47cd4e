pub mod Frames
pub mod Flow
