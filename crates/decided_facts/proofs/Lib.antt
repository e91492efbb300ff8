mod Placed
mod Sites
mod Showing
