pub mod Choice
pub mod Exact
pub mod Numbers
pub mod Sheet
pub mod Standing
pub mod Terms
