pub mod Exact
pub mod Choices
pub mod Plans
pub mod Accord
pub mod Prints
pub mod Panel
