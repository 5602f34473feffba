pub mod Wording
pub mod Commands
pub mod Turns
pub mod Layouts
