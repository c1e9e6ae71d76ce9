pub mod UnitRule
pub mod Closures
pub mod UnitSteps
