pub mod Copying
pub mod Naming
