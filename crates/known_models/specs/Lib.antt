pub mod Known
pub mod Changes
pub mod Ranked
pub mod Laws
