mod Acting
mod Places
mod Ranked
pub mod Numbers
mod Tables
mod Keeping
mod Again
pub mod Standing
mod Fresh
mod Bits
mod Filled
mod Marked
mod Pushing
mod Taking
