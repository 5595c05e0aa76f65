pub mod Chains
pub mod Making
pub mod Housed
pub mod Admitted
pub mod Fresh
