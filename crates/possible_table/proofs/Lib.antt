pub mod Jobs
pub mod Replies
mod Tellings
mod Printed
