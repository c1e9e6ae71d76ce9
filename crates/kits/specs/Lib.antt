pub mod Faults
pub mod Steps
pub mod Names
pub mod Pairs
pub mod PairedKits
