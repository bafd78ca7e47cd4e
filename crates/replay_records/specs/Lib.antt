pub mod Records
pub mod inner
