mod RowTests
mod OneRow
mod Listed
