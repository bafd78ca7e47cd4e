pub mod Held
pub mod Kept
pub mod Docked
pub mod Ended
pub mod Described
pub mod Laid
pub mod Told
