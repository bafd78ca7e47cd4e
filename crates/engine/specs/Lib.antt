pub mod Engine
pub mod Inner
