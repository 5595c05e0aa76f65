pub mod Held
pub mod Owned
