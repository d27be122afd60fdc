pub mod Acts
pub mod Cuts
pub mod Rows
pub mod Keeping
pub mod Standing
