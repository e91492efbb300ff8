mod Lists
mod Places
mod Reading
mod Values
mod Atoms
mod Posed
mod FactLaw
mod Finding
