mod Within
mod Sorting
mod Growing
