pub mod Ranges
pub mod Settled
pub mod Held
pub mod Hearing
pub mod Meeting
pub mod Taking
