mod Dues
mod Given
mod OneOutcome
mod Statements
mod Steps
