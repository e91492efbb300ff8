mod Fronts
mod Going
mod Matching
mod Sameness
mod Wanting
