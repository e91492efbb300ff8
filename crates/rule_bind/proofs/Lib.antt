mod AtPlace
mod Due
mod Fitting
mod Numbers
mod Places
mod Reading
mod Walk
