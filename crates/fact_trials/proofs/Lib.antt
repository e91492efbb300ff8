mod Lists
mod Headless
mod Instances
mod Tellings
mod Spending
