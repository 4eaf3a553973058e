pub mod Calls
pub mod Checks
pub mod History
pub mod Kept
pub mod Settled
pub mod States
pub mod Table
pub mod Worked
