pub mod Lists
pub mod Timetable
pub mod FreeOrder
pub mod Recurrence
pub mod GivenOrder
pub mod Run
pub mod Laying
pub mod Positions
