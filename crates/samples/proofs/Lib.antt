pub mod TwoStates
pub mod Worked
