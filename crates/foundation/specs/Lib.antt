pub mod Bytes
pub mod Division
pub mod Fault
pub mod First
pub mod Sums
