mod Whole
mod Putting
mod Places
mod Finding
mod Replacing
mod Beside
mod Counting
mod Meeting
