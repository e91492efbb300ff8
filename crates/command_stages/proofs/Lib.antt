pub mod OneRead
pub mod Outcomes
pub mod StageLemmas
pub mod WholeTexts
