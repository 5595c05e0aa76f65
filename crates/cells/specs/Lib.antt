pub mod Counts
pub mod Changes
pub mod Rows
pub mod Tables
