pub mod Functions
pub mod Wrong
pub mod Panel
pub mod Weakened
pub mod Callable
