pub mod AwayJobs
pub mod Held
pub mod Loops
pub mod Answers
