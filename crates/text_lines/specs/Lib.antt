pub mod Lines
pub mod Words
pub mod Readings
pub mod Places
