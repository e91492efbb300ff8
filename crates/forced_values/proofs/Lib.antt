mod Marked
mod Reading
mod SameValues
mod ForcedClaims
