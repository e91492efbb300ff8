mod Current
mod Fitting
mod Matched
mod Searched
mod Sorted
mod Tuples
