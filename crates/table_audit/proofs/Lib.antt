pub mod Walking
pub mod Indexing
pub mod Naming
pub mod Differing
pub mod Saying
pub mod Ending
pub mod Worked
