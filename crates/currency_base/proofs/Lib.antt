mod Numerals
mod TupleOrder
