mod Leaving
mod Lists
mod Places
mod Rest
