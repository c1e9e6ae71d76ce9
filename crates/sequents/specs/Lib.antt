pub mod Numbered
pub mod SequentRules
pub mod Rooms
pub mod AllowedSteps
pub mod RulePlans
pub mod RoomSets
pub mod ShapesOf
