pub mod Numbers
pub mod Listing
pub mod Entering
pub mod Steps
pub mod Answers
pub mod Rows
pub mod Words
pub mod Sets
