mod Keys
mod Changes
mod Noting
mod Says
mod SaysAnswers
