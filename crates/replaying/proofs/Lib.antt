pub mod Rooms
pub mod Turns
pub mod Examples
pub mod Patterns
pub mod Handed
pub mod Runs
