pub mod Fields
pub mod Laws
pub mod Text
pub mod Writers
