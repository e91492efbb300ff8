-- What the guide at a place chooses.
use Rattle.std.specs.List.{swap}
use Rattle.std.proofs.Common.{◌≡◌, ◌<◌, ◌≤◌, ◌∙◌, ℕ, zero, suc, List, [], ◌∷◌, Option, None, length, get_or, slice_get, option_and_then, take, refl, sym, ap, arith}
use Rattle.std.proofs.lemmas.Option.{slice_get-get_or, slice_get_past, slice_get_read}
use Rattle.currency_base.specs.declared.lit.Lit.{Lit}
use Rattle.search_trail.specs.Trails.{ScopedValues}
use Rattle.solver_guides.specs.Rings.{choice_at}

module _ {B : Type 0} (choice : B → ScopedValues → Option Lit) (guides : List B) (values : ScopedValues) where
  -- it is that of the guide there
  pub choice_there : (n at : ℕ) (guide : B) → n ≡ length guides → at < n → guide ≡ get_or guides at guide
      → choice guide values ≡ choice_at choice guides at values
  choice_there n at guide long within read =
      sym (ap (option_and_then (λ g. choice g values)) (slice_get_read guides n at guide long within read))

  -- beyond the end there is none
  pub choice_past : (at : ℕ) → length guides ≤ at → None ≡ choice_at choice guides at values
  choice_past at past = sym (ap (option_and_then (λ g. choice g values)) (slice_get_past guides at past))

-- the guide that is left is the one that stood at the place
kept_first : {B : Type 0} (guides : List B) (place : ℕ) → place < length guides
    → slice_get (take 1 (swap guides 0 place)) 0 ≡ slice_get guides place
kept_first [] place within = absurd (omega (arith, within))
kept_first (g ∷ gs) zero within = refl
kept_first (g ∷ gs) (suc place) within = sym (slice_get-get_or gs place g (omega (arith, within)))

pub choice_kept : {B : Type 0} (choice : B → ScopedValues → Option Lit) (old swapped new : List B) (place : ℕ)
    (values : ScopedValues)
    → place < length old → swapped ≡ swap old 0 place → new ≡ take 1 swapped → choice_at choice new 0 values ≡
    choice_at choice old place values
choice_kept choice old swapped new place values within is_swapped is_new =
    ap (option_and_then (λ g. choice g values))
    (ap (λ gs. slice_get gs 0) (is_new ∙ ap (take 1) is_swapped) ∙ kept_first old place within)
