mod Longer
mod Within
