mod Blocks
mod LaterRows
pub mod PairFacts
