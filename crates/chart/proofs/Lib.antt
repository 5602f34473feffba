mod Counters
mod Pairs
mod Records
mod Files
mod Sound
