pub mod Forced
