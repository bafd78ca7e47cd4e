pub mod Laws
pub mod Quiet
