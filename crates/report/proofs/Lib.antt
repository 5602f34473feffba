pub mod Rows
mod Short
mod Spelled
