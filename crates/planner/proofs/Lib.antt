pub mod Finishing
pub mod Deadlines
pub mod Settled
