mod Copies
mod Fitting
mod Placing
mod Setting
