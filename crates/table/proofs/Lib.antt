pub mod Tables
pub mod Accepted
pub mod Written
pub mod ReadBack
pub mod Reading
