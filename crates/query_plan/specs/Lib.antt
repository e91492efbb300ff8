pub mod Implied
pub mod Plans
pub mod ValueOrder
