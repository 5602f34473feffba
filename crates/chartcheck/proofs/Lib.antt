mod Entering
mod Refusals
