pub mod Marks
pub mod Names
pub mod ControlFits
pub mod PacketFits
