mod Places
mod Keeping
mod Lowest
mod Acting
mod Standing
