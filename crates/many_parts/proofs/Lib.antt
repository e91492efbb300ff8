mod FirstPlaces
mod Chosen
mod AllJoined
mod AllKept
mod Consistency
mod Certainty
