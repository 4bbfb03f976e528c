pub mod Answers
pub mod Orders
