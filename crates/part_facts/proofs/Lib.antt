mod Tuples
mod Widened
mod AskedParts
