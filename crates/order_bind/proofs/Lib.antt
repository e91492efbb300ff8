pub mod OrderFaults
pub mod OrderLemmas
pub mod OrderPairs
pub mod Answered
pub mod Given
pub mod Made
mod Said
