pub mod Same
mod Marks
mod Once
mod Tables
mod Parts
mod Order
mod Reductions
