mod Written
mod Filled
