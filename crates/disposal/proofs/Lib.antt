mod Absent
mod Places
mod Strong
mod Totals
mod Chains
mod Quiet
mod Pending
mod Splits
mod Steps
mod Loop
mod Starts
pub mod Outcomes
mod Bounds
