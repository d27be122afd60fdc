pub mod Hopping
pub mod EachHop
pub mod NewNodes
pub mod Ordering
