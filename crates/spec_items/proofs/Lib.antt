mod Listed
mod Members
mod Places
mod Among
mod Fewer
mod AllKept
