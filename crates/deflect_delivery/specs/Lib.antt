pub mod Terrain
pub mod Touring
pub mod Stills
pub mod Progress
pub mod Delivering
