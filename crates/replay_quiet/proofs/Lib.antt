pub mod Laws
pub mod Plays
