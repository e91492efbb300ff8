pub mod Asked
pub mod FirstFrees
pub mod Marked
pub mod Taken
pub mod Turns
