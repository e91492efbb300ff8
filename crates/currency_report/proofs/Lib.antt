mod Places
mod Outcomes
mod Rankings
mod Listed
mod Joining
mod Whole
