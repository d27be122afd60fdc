pub mod Acts
pub mod Readings
pub mod Ways
pub mod WaySets
pub mod Tables
pub mod Keeping
pub mod Standing
