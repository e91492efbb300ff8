pub mod Alike
pub mod Filled
