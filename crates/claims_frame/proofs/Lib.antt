pub mod Examples
pub mod Framing
pub mod OneByte
pub mod RoundTrip
pub mod Faults
pub mod Sums
