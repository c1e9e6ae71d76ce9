pub mod Trees
pub mod Parts
pub mod Passes
pub mod Frames
pub mod Readings
pub mod Parses
