pub mod Bounds
pub mod Faults
pub mod Laws
pub mod Lines
pub mod Posting
pub mod Tables
pub mod Worked
