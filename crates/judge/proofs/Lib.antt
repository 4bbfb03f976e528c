pub mod Jobs
pub mod Walk
pub mod Says
