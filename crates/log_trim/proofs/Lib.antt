mod Marking
pub mod Ranks
mod Closure
mod Whole
pub mod NewPlaces
pub mod RenumberedLits
pub mod StillFollows
pub mod StaysInPlace
mod InPlace
