pub mod Laws
pub mod Sound
pub mod Marks
pub mod Says
pub mod Positions
