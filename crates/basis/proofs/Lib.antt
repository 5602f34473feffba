pub mod Laying
pub mod Figures
pub mod Pieces
pub mod Telling
pub mod Stacked
