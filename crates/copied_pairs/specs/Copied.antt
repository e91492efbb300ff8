-- The rows of which a copy function speaks.
use Rattle.std.specs.Prelude.{◌≡◌, ◌≢◌, ◌<◌, ℕ, List, Some, All, Contains, slice_get}
use Rattle.currency_base.specs.Lists.{OnlyOnce}
use Rattle.currency_base.specs.declared.row.Row.{Row}
use Rattle.copy_functions.specs.Copies.{CopyFunction}
use Rattle.spec_model.specs.Compatible.{AreCopiedTogether, IsRowPairBefore}
use Rattle.copied_pairs.specs.declared.pairs.CopiedPair.{CopiedPair}

-- two different mapped rows of one entity whose sources are different rows of one entity
pub record IsCopiedPair (copy : CopyFunction) (target source : List Row) (p : CopiedPair) : Type 0 where
  pub together : AreCopiedTogether copy target source p.first p.second
  pub differ : p.first ≢ p.second
  pub sources_differ : together.first_source ≢ together.second_source

-- exactly these pairs of a copy function, each once
pub record AreCopiedPairs (copy : CopyFunction) (target source : List Row) (pairs : List CopiedPair) : Type 0 where
  pub each : All (IsCopiedPair copy target source) pairs
  pub all : (p : CopiedPair) → IsCopiedPair copy target source p → Contains pairs p
  pub once : OnlyOnce pairs

-- the pairs ascend: by their first rows, and then by their second
abbrev pub Ascend : List CopiedPair → Type 0
Ascend pairs = (i j : ℕ) (p q : CopiedPair) → slice_get pairs i ≡ Some p → slice_get pairs j ≡ Some q → i < j
    → IsRowPairBefore p.first p.second q.first q.second
