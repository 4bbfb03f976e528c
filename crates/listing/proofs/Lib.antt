pub mod Lines
pub mod Found
pub mod Places
pub mod Short
pub mod Texts
pub mod Settled
pub mod Examples
