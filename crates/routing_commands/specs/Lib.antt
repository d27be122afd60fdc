pub mod Forms
pub mod Headline
pub mod Limits
pub mod Notes
