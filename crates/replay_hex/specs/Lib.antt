pub mod Hex
pub mod Inner
