pub mod Journals
pub mod Postings
pub mod Records
pub mod Tables
