mod Indexed
mod Places
