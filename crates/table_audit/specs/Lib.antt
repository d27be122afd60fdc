pub mod Rows
pub mod Verdicts
pub mod Walks
pub mod Index
pub mod Tables
pub mod Reading
pub mod Audited
