pub mod Laws
pub mod LawsFrames
