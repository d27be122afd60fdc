mod Appending
pub mod Closing
mod Ended
mod Filling
mod DiskCalls
mod Heads
mod Histories
mod Images
mod Examples
mod Failing
pub mod Moments
mod Opening
mod Records
pub mod JournalFiles
pub mod Durable
mod Telling
