pub mod Changes
pub mod References
