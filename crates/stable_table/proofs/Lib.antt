pub mod Inserting
pub mod Published
pub mod Two
pub mod Keeping
pub mod Based
pub mod Again
pub mod Simple
pub mod Backed
pub mod Tabled
pub mod Leading
mod Responding
mod Flagging
