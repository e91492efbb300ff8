mod Naming
mod Listing
mod Differing
