pub mod Stepping
pub mod Counted
pub mod Examples
pub mod Order
pub mod Faults
