-- The laws of the frame layer: what its proofs, and chip and dock above it, use instead of the definitions' text.
pub mod Sum
pub mod Frame
pub mod Collector
pub mod Judgement
pub mod Wire
