pub mod Places
mod Columns
mod Layouts
pub mod Cells
pub mod Slots
mod Grouped
