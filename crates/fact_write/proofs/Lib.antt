mod Ending
mod Reading
mod Places
mod Listing
