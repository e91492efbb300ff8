pub mod Cuts
mod Parted
mod Places
