mod Kept
mod Words
