pub mod Recovery
pub mod Shares
pub mod Split
pub mod Weights
pub mod Worked
