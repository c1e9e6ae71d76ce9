pub mod Passing
pub mod Serving
pub mod Short
pub mod Writing
