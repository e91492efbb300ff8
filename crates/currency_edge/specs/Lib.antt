pub mod Fault
pub mod Shelf
pub mod Sink
pub mod States
