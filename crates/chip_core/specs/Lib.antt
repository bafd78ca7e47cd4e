pub mod Effect
pub mod Hearing
