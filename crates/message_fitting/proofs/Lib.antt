pub mod ListedMarks
pub mod Ordering
pub mod Totals
pub mod TriggerLists
