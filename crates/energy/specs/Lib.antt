pub mod Dispatch
pub mod Energy
pub mod Metered
pub mod Profile
pub mod Table
pub mod Totals
pub mod Divisions
