pub mod Columns
pub mod Rooms
pub mod Rows
pub mod Bests
pub mod Jobs
