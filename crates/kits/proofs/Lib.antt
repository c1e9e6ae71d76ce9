pub mod InSequents
pub mod FoundNames
