pub mod Adequacy
mod Assigned
mod Chosen
mod Decided
mod LastAxioms
mod Lists
mod Models
pub mod OneClause
pub mod OrderAxioms
pub mod Orders
mod Rows
pub mod Saids
mod SameOrders
mod Sound
mod Statements
mod Truths
