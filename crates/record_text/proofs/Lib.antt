mod Begun
mod FreeWriter
mod Marks
mod ReadBack
