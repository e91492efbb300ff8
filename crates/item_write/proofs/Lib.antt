pub mod Listing
mod Naming
mod Placing
