pub mod Publications
pub mod Walks
pub mod Finding
pub mod Effects
pub mod EffectLists
pub mod Accounts
