pub mod Ways
pub mod Lists
pub mod Reaching
pub mod Tours
pub mod Touring
pub mod Standing
pub mod WholeWalks
pub mod Beside
pub mod Stepping
pub mod Fits
mod Examples
