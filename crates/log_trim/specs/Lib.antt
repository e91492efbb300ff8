pub mod Trimmed
pub mod Marked
pub mod Laws
pub mod Place
