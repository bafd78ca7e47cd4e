pub mod NeverRefused
pub mod WholeCase
pub mod Lines
pub mod Pieces
pub mod Converted
pub mod Seats
