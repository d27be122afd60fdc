pub mod Tables
pub mod Trimming
pub mod Published
pub mod TwoTables
pub mod Keeping
pub mod Rows
pub mod Flags
