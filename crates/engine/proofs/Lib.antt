pub mod Fronts
pub mod Turns
pub mod Answering
pub mod Loop
pub mod Ending
pub mod Joining
