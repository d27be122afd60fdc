pub mod Acts
pub mod Readings
pub mod Keeping
pub mod Seen
pub mod Standing
