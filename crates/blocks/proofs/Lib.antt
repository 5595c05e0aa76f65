mod Slotted
mod Pools
mod Scans
mod Placed
