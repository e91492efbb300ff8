pub mod Premises
pub mod Borne
