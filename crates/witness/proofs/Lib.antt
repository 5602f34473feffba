mod Laid
mod Firsts
mod Counts
mod Descents
mod Places
mod Stays
mod Lookups
mod Traces
pub mod Shows
