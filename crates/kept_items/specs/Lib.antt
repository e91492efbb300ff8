pub mod Alike
pub mod Laws
pub mod Marked
pub mod Steps
