pub mod Allows
pub mod Exact
pub mod Prints
pub mod Panel
