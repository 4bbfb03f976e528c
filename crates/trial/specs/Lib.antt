pub mod Orders
pub mod Finish
pub mod Said
