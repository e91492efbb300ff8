mod Adding
mod Agree
mod Horns
mod Nothing
mod Standing
mod Tables
mod Whole
pub mod RowOrders
pub mod ForcedLaws
