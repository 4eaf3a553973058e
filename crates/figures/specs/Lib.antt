pub mod Figures
pub mod Samples
