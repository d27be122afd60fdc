pub mod NodeRuns
pub mod Handing
