pub mod Orders
pub mod Finish
