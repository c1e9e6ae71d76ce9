pub mod Buffers
pub mod Newlines
pub mod Faults
pub mod Fields
pub mod Sheets
