pub mod Turns
pub mod Lines
