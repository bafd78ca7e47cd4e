pub mod Examples
pub mod Records
pub mod Laid
pub mod Rewritten
pub mod Search
pub mod Answers
pub mod RoundTrip
pub mod Pieces
