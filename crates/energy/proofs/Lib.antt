pub mod Ranges
pub mod Readings
pub mod Tables
