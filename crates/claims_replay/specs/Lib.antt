pub mod Printed
pub mod Pieces
pub mod Cases
pub mod Converted
pub mod Seats
