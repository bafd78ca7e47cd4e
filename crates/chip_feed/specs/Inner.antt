-- Definitions that only the proofs see.
pub mod Turn
