pub mod Fronts
pub mod Signs
pub mod Sound
mod Numbers
mod FreshClauses
mod CountedSteps
