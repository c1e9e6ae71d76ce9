pub mod Built
pub mod Opposites
pub mod Tests
pub mod Positions
pub mod Loops
pub mod Carried
pub mod Decisions
pub mod Unfoldings
