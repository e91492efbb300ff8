pub mod Parts
pub mod Sorted
pub mod Told
pub mod Laws
