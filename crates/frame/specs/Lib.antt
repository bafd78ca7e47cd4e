pub mod Sum
pub mod Frame
pub mod Collector
pub mod Framing
pub mod Judgement
pub mod Wire
pub mod Inner
