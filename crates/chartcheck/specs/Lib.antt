pub mod Output
pub mod Told
