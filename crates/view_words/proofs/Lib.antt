pub mod Elements
pub mod Ended
pub mod Listed
