pub mod Arrays
pub mod Chunks
pub mod First
pub mod Lists
pub mod Numbers
pub mod Shares
pub mod Signed
pub mod Sums
