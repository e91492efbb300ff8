mod Lengths
mod BlockLengths
mod Bounded
