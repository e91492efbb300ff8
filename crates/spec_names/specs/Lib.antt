pub mod NameLists
pub mod Names
