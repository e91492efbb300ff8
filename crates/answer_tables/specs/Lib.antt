pub mod Asked
pub mod Records
