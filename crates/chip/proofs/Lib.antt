pub mod Runs
pub mod Settling
pub mod Saying
pub mod Adding
pub mod Quiet
