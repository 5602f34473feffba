pub mod Answered
pub mod Found
pub mod Placed
pub mod Planned
pub mod Same
pub mod Stacked
pub mod Trees
pub mod Written
