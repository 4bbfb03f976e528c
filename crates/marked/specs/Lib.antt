pub mod Marked
pub mod Versions
