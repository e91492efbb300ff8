pub mod Numbers
pub mod Line
pub mod Words
pub mod Examples
pub mod Said
