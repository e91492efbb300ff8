pub mod OneJudgement
pub mod PartLines
pub mod ShownReports
