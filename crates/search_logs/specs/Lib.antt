pub mod Free
pub mod Right
pub mod SearchLogs
pub mod Laws
