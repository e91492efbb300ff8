mod AnswerClaims
mod Claimed
mod Claims
mod Counting
pub mod Differing
mod FirstUnshown
mod Firsts
mod Fronts
mod Lacks
mod Meeting
mod Needing
mod Refusing
mod Rising
