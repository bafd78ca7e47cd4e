pub mod Examples
pub mod Records
pub mod Rewritten
pub mod Answers
pub mod RoundTrip
pub mod Pieces
