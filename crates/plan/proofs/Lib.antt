pub mod Steps
pub mod Plans
