pub mod Standing
pub mod SoFar
