pub mod Draws
pub mod LoadNetwork
pub mod LoadSchedule
