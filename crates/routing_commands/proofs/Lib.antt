pub mod Ending
pub mod Formed
pub mod Noting
