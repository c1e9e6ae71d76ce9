pub mod Sequents
pub mod Rules
pub mod Units
pub mod Laws
