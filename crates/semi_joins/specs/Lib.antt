pub mod Kept
pub mod KeyOrder
