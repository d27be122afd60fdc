pub mod Bits
pub mod LastNodes
