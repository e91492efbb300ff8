-- Sets of matches, with a bound on how many are wanted.
use Rattle.std.specs.Prelude.{◌≡◌, ◌<◌, ◌⊎◌, ℕ, Bool, true, false, List, Contains, length}
use Rattle.query_model.specs.declared.query.Match.{Match}

-- matches, each once, with a bound on how many are wanted
pub record Bounded : Type 0 where
  pub most : ℕ
  pub matches : List Match

-- the matches that are meant are added, and nothing else; or there are too many
pub record Adds (IsMeant : Match → Type 0) (old new : Bounded) (is_full : Bool) : Type 0 where
  pub most : new.most ≡ old.most
  pub kept : (m : Match) → Contains old.matches m → Contains new.matches m
  pub sound : (m : Match) → Contains new.matches m → Contains old.matches m ⊎ IsMeant m
  pub complete : is_full ≡ false → (m : Match) → IsMeant m → Contains new.matches m
  pub full : is_full ≡ true → new.most < length new.matches
