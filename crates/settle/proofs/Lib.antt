pub mod Chosen
pub mod Counts
mod Cut
pub mod Fractions
pub mod Termed
pub mod Words
pub mod Written
