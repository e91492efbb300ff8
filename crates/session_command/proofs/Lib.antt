pub mod Asking
pub mod Doing
pub mod Edits
pub mod Going
pub mod Leaving
pub mod Replying
pub mod Scripts
pub mod Sessions
