pub mod Drafts
pub mod Planned
