mod LitParts
mod TrueLits
mod UnderGoal
mod GoalValue
mod Truths
mod Grown
mod Shown
