-- A look at one clause, by its outcomes.
use Rattle.std.proofs.Common.{◌≡◌, ◌≢◌, ◌⊎◌, ◌-◌, ◌<◌, ◌≤◌, ◌*◌, ◌∙◌, ℕ, Bool, true, false, List, Option, Some, None, Contains, length, slice_get, slice_set, refl, sym, ap, subst, inl, inr, arith}
use mathlib.Core.Bool.{beq}
use Rattle.std.specs.Option.{option_eq}
use Rattle.std.proofs.lemmas.Bool.{cases_eq, false≢true}
use Rattle.std.proofs.lemmas.Option.{same_Some, slice_get_within}
use Rattle.currency_base.specs.Literals.{negation, var_of}
use Rattle.currency_base.specs.declared.lit.Lit.{Lit}
use Rattle.watch_links.specs.Links.{IsIn, lists_with, lists_without}
use Rattle.clause_arena.specs.Arenas.{Arena, AreWatchers, AreWithin, IsWatched, MovesWatch, place_of, watchers_of}
use Rattle.search_trail.specs.Trails.{IsReason, Trail, lits_of}
use Rattle.watch_propagate.specs.WatchRule.{IsConflict}
use Rattle.watch_propagate.specs.Walks.{IsSeenTo}
use Rattle.watch_propagate.proofs.WalkLits.{contains_at, place_in, var_within}
use Rattle.watch_propagate.proofs.WalkItems.{all_at}
use Rattle.watch_propagate.proofs.WalkMoves.{IsFacing, IsMoved, facing_cases, watch_first, watch_lits, watch_second}

-- ---- a clause that watches a literal

module _ (a : Arena) (clause : ℕ) (lit : Lit) (are : AreWatchers a) (stands : IsIn clause (watchers_of a lit)) where
  pub looked_within : clause < length a.clauses
  looked_within = let w = are.watched lit clause stands in slice_get_within a.clauses clause w.lits w.is_clause

-- the literals of clauses are of the trail's variables
pub clause_vars : (a : Arena) (vars clause : ℕ) (lits : List Lit) → AreWatchers a → length a.watchers ≡ 2 * vars
    → slice_get a.clauses clause ≡ Some lits
    → (k : ℕ) (x : Lit) → slice_get lits k ≡ Some x → var_of x < vars
clause_vars a vars clause lits are fits is k x at =
    let within = all_at (λ (l : Lit). place_of l < length a.watchers) lits k x
    (all_at (AreWithin a) a.clauses clause lits are.within is) at in
    var_within x vars (omega (arith, within, fits))

-- what a test of a truth tells
pub truth_tested : (o : Option Bool) (b : Bool) → option_eq beq o (Some b) ≡ true → o ≡ Some b
truth_tested None b e = absurd (false≢true e)
truth_tested (Some true) true e = refl
truth_tested (Some true) false e = absurd (false≢true e)
truth_tested (Some false) true e = absurd (false≢true e)
truth_tested (Some false) false e = refl

-- ---- outcomes

module _ (a : Arena) (t : Trail) (clause : ℕ) (lits : List Lit) (from : ℕ) (lit other : Lit)
    (f : IsFacing a clause lits from lit other) where
  -- the other watched literal is true
  pub looked_true : Contains (lits_of t) other → IsSeenTo a t lit clause
  looked_true c = go (facing_cases a clause lits from lit other f)
    where
      go : ((from ≡ 0) × (slice_get lits 0 ≡ Some lit) × (slice_get lits 1 ≡ Some other)) ⊎
          ((from ≡ 1) × (slice_get lits 0 ≡ Some other) × (slice_get lits 1 ≡ Some lit))
          → IsSeenTo a t lit clause
      go (inl h) =
          record {
            first = λ w e. subst (Contains (lits_of t)) (sym (watch_second a clause w lits other f.is_clause h.2)) c;
            second = λ w e.
                subst (Contains (lits_of t))
                (sym (watch_second a clause w lits other f.is_clause h.2) ∙ e
                ∙ sym (watch_first a clause w lits lit f.is_clause h.1)) c;
          }
      go (inr h) =
          record {
            first = λ w e.
                subst (Contains (lits_of t))
                (sym (watch_first a clause w lits other f.is_clause h.1) ∙ e
                ∙ sym (watch_second a clause w lits lit f.is_clause h.2)) c;
            second = λ w e. subst (Contains (lits_of t)) (sym (watch_first a clause w lits other f.is_clause h.1)) c;
          }

  -- the literal is false, and all from the third on
  module _ (is_false : Contains (lits_of t) (negation lit)) (none : (k : ℕ) (x : Lit) → 2 ≤ k → slice_get lits k ≡
      Some x → Contains (lits_of t) (negation x)) where
    rest_false : (k : ℕ) (x : Lit) → slice_get lits k ≡ Some x → (x ≡ other) ⊎ Contains (lits_of t) (negation x)
    rest_false k x is = go (facing_cases a clause lits from lit other f) (cases_eq k 0) (cases_eq k 1)
      where
        here : (n : ℕ) (y : Lit) → k ≡ n → slice_get lits n ≡ Some y → y ≡ x
        here n y e at = same_Some y x (sym at ∙ ap (slice_get lits) (sym e) ∙ is)

        go : ((from ≡ 0) × (slice_get lits 0 ≡ Some lit) × (slice_get lits 1 ≡ Some other)) ⊎
            ((from ≡ 1) × (slice_get lits 0 ≡ Some other) × (slice_get lits 1 ≡ Some lit))
            → (k ≡ 0) ⊎ (k ≢ 0) → (k ≡ 1) ⊎ (k ≢ 1) → (x ≡ other) ⊎ Contains (lits_of t) (negation x)
        go (inl h) (inl e) second = inr (subst (λ (l : Lit). Contains (lits_of t) (negation l)) (here 0 lit e h.1) is_false)
        go (inl h) (inr d) (inl e) = inl (sym (here 1 other e h.2))
        go (inr h) (inl e) second = inl (sym (here 0 other e h.1))
        go (inr h) (inr d) (inl e) = inr (subst (λ (l : Lit). Contains (lits_of t) (negation l)) (here 1 lit e h.2) is_false)
        go side (inr d) (inr d') = inr (none k x (omega (arith, d, d')) is)

    -- so it implies the other watched literal
    pub looked_reason : IsReason lits (lits_of t) other
    looked_reason =
        record {
          is_in = contains_at lits (1 - from) other f.there;
          others = λ o c d. let at = place_in lits o c in go o d (rest_false at.0 o at.1);
        }
      where
        go : (o : Lit) → o ≢ other → (o ≡ other) ⊎ Contains (lits_of t) (negation o) → Contains (lits_of t) (negation o)
        go o d (inl e) = absurd (d e)
        go o d (inr c) = c

    -- or, where that is false too, has no other
    pub looked_conflict : Contains (lits_of t) (negation other) → IsConflict a (lits_of t) clause
    looked_conflict other_false =
        record {
          watched = w;
          all_false = λ l c. let at = place_in w.lits l c in go l
              (rest_false at.0 l (ap (λ (ls : List Lit). slice_get ls at.0) (sym same) ∙ at.1));
        }
      where
        w : IsWatched a clause
        w = f.are.watched lit clause f.stands

        same : w.lits ≡ lits
        same = watch_lits a clause w lits f.is_clause

        go : (l : Lit) → (l ≡ other) ⊎ Contains (lits_of t) (negation l) → Contains (lits_of t) (negation l)
        go l (inl e) = subst (λ (x : Lit). Contains (lits_of t) (negation x)) (sym e) other_false
        go l (inr c) = c

-- a watch that was moved, by the literals that were looked at
pub looked_moved : (a b : Arena) (clause : ℕ) (lits : List Lit) (from to : ℕ) (lit other : Lit)
    → IsFacing a clause lits from lit other → 2 ≤ to
    → (m : MovesWatch a b clause from to) → b.clauses_left ≡ a.clauses_left → b.lits_left ≡ a.lits_left
    → IsMoved a b clause lits from to lit m.taken
looked_moved a b clause lits from to lit other f high m clauses_left lits_left =
    record {
      high = high;
      is_taken = ap (λ (ls : List Lit). slice_get ls to) (sym same) ∙ m.is_taken;
      clauses =
          m.clauses
          ∙ ap (λ (ls : List Lit). slice_set a.clauses clause (slice_set (slice_set ls from m.taken) to m.left)) same
          ∙ ap (λ (l : Lit). slice_set a.clauses clause (slice_set (slice_set lits from m.taken) to l)) left;
      watchers = subst (λ (l : Lit). b.watchers ≡ lists_with (lists_without a.watchers (place_of l) clause)
          (place_of m.taken) clause) left m.watchers;
      clauses_left = clauses_left;
      lits_left = lits_left;
    }
  where
    same : m.lits ≡ lits
    same = same_Some m.lits lits (sym m.is_clause ∙ f.is_clause)

    left : m.left ≡ lit
    left = same_Some m.left lit (sym m.is_left ∙ ap (λ (ls : List Lit). slice_get ls from) same ∙ f.here)
