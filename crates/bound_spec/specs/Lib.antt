pub mod Growth
pub mod Known
