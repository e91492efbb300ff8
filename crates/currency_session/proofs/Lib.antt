mod Forms
mod Written
mod Trials
mod Room
mod Edited
mod Named
mod OfPart
mod Settled
