mod Copying
mod CopyReads
mod Listing
mod Mapped
mod AtPlace
pub mod Due
mod Fitting
pub mod HeadReads
pub mod NoReads
pub mod Places
mod Twice
pub mod Walk
