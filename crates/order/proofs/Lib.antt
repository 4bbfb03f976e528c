pub mod Insertion
pub mod Ordered
