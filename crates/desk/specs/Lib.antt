pub mod Calls
pub mod Steps
pub mod Past
pub mod Promise
pub mod Rooms
pub mod Told
pub mod Examples
