pub mod MadeRankings
pub mod NarrowMade
