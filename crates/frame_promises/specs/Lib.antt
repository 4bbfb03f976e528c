pub mod Call
pub mod History
pub mod Runs
pub mod Lent
pub mod Readings
pub mod Sequences
pub mod Own
