pub mod Records
pub mod Listed
pub mod Refusals
