mod Numbers
mod WholePlaces
mod WholeCompletions
mod Wholes
