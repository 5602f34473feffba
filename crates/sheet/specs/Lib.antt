pub mod Used
pub mod State
pub mod Promises
pub mod Reported
