pub mod Holding
pub mod Parting
pub mod Hearing
pub mod Projecting
pub mod Keeping
pub mod Beside
