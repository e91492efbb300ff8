mod AllOk
mod Fields
mod OfKinds
mod OneList
mod Places
mod Steps
mod Whole
