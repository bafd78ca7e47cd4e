pub mod Sum
pub mod Taken
pub mod Refused
pub mod Options
pub mod Window
pub mod Unfinished
pub mod Faults
pub mod FaultExamples
