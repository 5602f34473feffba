pub mod Led
pub mod Splits
pub mod Answers
pub mod Whole
pub mod Cut
pub mod Running
