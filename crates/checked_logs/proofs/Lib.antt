mod PlainClauses
mod FirstKept
pub mod Accepted
mod Renumbered
mod StillAccepted
mod StillNumbered
mod GoalsSay
