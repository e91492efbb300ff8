mod Lists
mod Over
mod Edits
mod Filled
mod Turned
mod Standing
mod MoreMapped
