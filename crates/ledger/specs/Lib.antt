pub mod Amounts
pub mod Entries
pub mod Journal
pub mod Limits
pub mod Posts
pub mod Table
