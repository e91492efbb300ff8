-- What a decision over a part of a specification comes to.
use Rattle.std.specs.Prelude.{◌≡◌, ◌<◌, ℕ, Bool, true, List, Contains, Option, Some, slice_get, slice_set}
use Rattle.currency_base.specs.Literals.{is_negative, var_of}
use Rattle.currency_base.specs.declared.lit.Lit.{Lit}
use Rattle.known_models.specs.Changes.{Takes}
use Rattle.known_models.specs.Known.{IsKnown}
use Rattle.order_search.specs.Parts.{Ends, parted_of}
use Rattle.order_search.specs.Searches.{Search, Subject}
use Rattle.order_search.specs.Tied.{scope_in}
use Rattle.order_search.specs.declared.parting.Parting.{Parting}
use Rattle.order_search.specs.declared.partwise.Round.{Round}
use Rattle.order_search.specs.declared.partwise.Round.TheVariants.{Done, Again, Ended}

-- a literal is false by the known truths, and its variable is given a value with this part
pub record IsFalseIn (g : Parting) (own : Option ℕ) (lit : Lit) : Type 0 where
  pub part : ℕ
  pub is_own : own ≡ Some part
  pub of_part : Contains (scope_in g part) (var_of lit)
  pub is_false : slice_get g.known.truths (var_of lit) ≡ Some (is_negative lit)

-- what is known beside the model stays
pub record HasSame (old new : Parting) : Type 0 where
  pub parts : new.parts ≡ old.parts
  pub members : new.members ≡ old.members
  pub ties : new.ties ≡ old.ties

-- a part was made anew, with the goal false: no truth changed but those that are given with it
pub record IsMade (part : ℕ) (goal : Option Lit) (old new : Parting) : Type 0 where
  pub same : HasSame old new
  pub done : new.known.done ≡ slice_set old.known.done part true
  pub others : (var : ℕ) → (Contains (scope_in old part) var → ⊥)
      → slice_get new.known.truths var ≡ slice_get old.known.truths var
  pub goal_false : (lit : Lit) → goal ≡ Some lit → IsFalseIn new (Some part) lit

-- the model took values of a part and of the answers that lie in it, and the part is done
pub record HasTakenIn (s : Subject) (part : ℕ) (given : List (Option Bool)) (old new : Parting) : Type 0 where
  pub same : HasSame old new
  pub known : IsKnown (parted_of s new.parts) new.known
  pub truths : Takes (scope_in old part) given old.known.truths new.known.truths
  pub done : new.known.done ≡ slice_set old.known.done part true

-- what a round over a part comes to: the part is done; or lists were brought in, so that fewer variables have no mark; or the
-- decision ended with no model
abbrev pub ComesTo : ℕ → Option Lit → Parting → Parting → ℕ → ℕ → Search → ℕ → Round → Type 0
ComesTo part goal old new unmarked_old unmarked_new s left Done = IsMade part goal old new
ComesTo part goal old new unmarked_old unmarked_new s left Again = (new ≡ old) × (unmarked_new < unmarked_old)
ComesTo part goal old new unmarked_old unmarked_new s left (Ended outcome) = (new ≡ old) × Ends s goal left outcome
