pub mod Examples
pub mod Collecting
pub mod OneByte
pub mod Faults
