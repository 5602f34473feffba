pub mod Counters
pub mod Pairs
pub mod Records
pub mod Filed
pub mod Files
