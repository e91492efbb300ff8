mod Lists
mod Claims
mod Made
mod Claimed
mod FieldsShown
mod Posable
mod Left
mod Known
