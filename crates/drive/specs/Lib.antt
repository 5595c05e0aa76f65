pub mod Commands
pub mod Meanings
pub mod Runs
pub mod Texts
