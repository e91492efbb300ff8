pub mod Tied
pub mod Numbers
pub mod Classes
pub mod Links
pub mod Order
pub mod Labels
pub mod Parts
pub mod Chosen
