pub mod Cable
pub mod Rehearsal
