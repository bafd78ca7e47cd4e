pub mod Part
pub mod Rate
pub mod Refusal
pub mod Signature
