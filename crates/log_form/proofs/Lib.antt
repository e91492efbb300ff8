mod Places
mod Within
