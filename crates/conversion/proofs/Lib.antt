pub mod First
pub mod Rewriting
pub mod Tail
pub mod Writing
