pub mod Contexts
pub mod SoundRules
pub mod SoundUnits
pub mod Decided
pub mod DecidedRules
pub mod DecidedUnits
