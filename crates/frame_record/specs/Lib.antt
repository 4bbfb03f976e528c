pub mod Finite
pub mod Sound
pub mod Listed
pub mod Answers
