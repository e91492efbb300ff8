pub mod PairOrder
pub mod TakenPairs
