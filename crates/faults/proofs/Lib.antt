pub mod Files
pub mod Plans
pub mod Tables
pub mod Numbers
pub mod Checks
pub mod Says
