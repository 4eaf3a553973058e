pub mod Accepted
pub mod History
pub mod Products
pub mod Published
pub mod Records
pub mod Registration
pub mod Subtotals
pub mod Units
