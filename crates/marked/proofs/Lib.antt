pub mod Cases
pub mod Replies
pub mod Examples
pub mod Marked
pub mod Planners
pub mod LooksRight
pub mod Checks
pub mod Runners
