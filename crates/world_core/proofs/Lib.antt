pub mod Places
pub mod Due
pub mod Counted
pub mod Inside
pub mod Mailing
pub mod Delivered
pub mod Near
pub mod Carried
mod Numbered
pub mod Telling
pub mod Nodes
pub mod Turned
pub mod Handing
pub mod Shown
pub mod Counts
pub mod Fresh
pub mod Proposing
pub mod Ascending
pub mod ShortLists
pub mod Stopping
pub mod Returning
pub mod Answered
pub mod AfterSteps
pub mod Handed
pub mod Changing
pub mod Opened
pub mod Next
pub mod Restarting
pub mod Lawful
pub mod Stepped
pub mod Held
mod Steady
mod Crashing
pub mod Listed
