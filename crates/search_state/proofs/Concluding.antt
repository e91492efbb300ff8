-- What is learned from a conflict, and what is concluded.
use Rattle.std.proofs.Common.{◌≡◌, ◌==◌, ◌<◌, ◌-◌, zero, suc, if◌then◌else◌, ℕ, Bool, true, false, List, [], ◌∷◌, ◌++◌, All, Some, Contains, length, take, slice_get, refl, sym, ap, subst, arith}
use Rattle.std.proofs.lemmas.Bool.{eqb-true}
use Rattle.std.proofs.lemmas.Option.{same_Some}
use Rattle.currency_base.specs.Literals.{negation}
use Rattle.currency_base.specs.declared.lit.Lit.{Lit}
use Rattle.clause_arena.specs.Arenas.{Arena}
use Rattle.search_trail.specs.Trails.{AreEntries, Trail, entries_up_to, implied, lits_of, undone}
use Rattle.refutation_log.specs.Steps.{clauses_of}
use Rattle.refutation_log.specs.declared.step.Step.TheVariants.{Learn}
use Rattle.refutation_log.specs.Counted.{IsAtRest, IsOpen, IsUnit}
use Rattle.watch_propagate.specs.WatchRule.{AreReordered, IsDueTo}
use Rattle.watch_propagate.proofs.KeptLits.{front_of_trail_consistent}
use Rattle.watch_propagate.proofs.KeptLists.{stands_at}
use Rattle.conflict_analysis.specs.Analyses.{AreOfAssumed, IsDerived, IsLearned, Learned, lits_below}
use Rattle.search_state.specs.States.{HasConcluded, HasLearned, HasRefuted, State, vars_of}
use Rattle.search_state.specs.Held.{BeginsUnit, lowest_back}
use Rattle.search_state.proofs.Fresh.{new_clause}
use Rattle.search_state.proofs.Grounds.{undone_less}
use Rattle.search_state.proofs.Keeping.{derived_of}

-- a list of one item
one_item : (lits : List Lit) (first : Lit) → length lits ≡ 1 → slice_get lits 0 ≡ Some first → lits ≡ first ∷ []
one_item [] first one is = absurd (omega (arith, one))
one_item (x ∷ []) first one is = ap (λ (y : Lit). y ∷ []) (same_Some x first is)
one_item (x ∷ y ∷ rest) first one is = absurd (omega (arith, one))

module _ (a : Arena) (t : Trail) (l : Learned) (learned : IsLearned a t l) (are : AreEntries t) where
  -- where the clause leads back, or lower if it has one literal, that one is open and the others are false
  pub learned_unit : BeginsUnit (lits_of (undone t (lowest_back l))) l.lits
  learned_unit = record { first = learned.first; is_first = learned.is_first; unit = go (length l.lits == 1) refl }
    where
      go : (b : Bool) → (length l.lits == 1) ≡ b → IsUnit (lits_of (undone t (if b then 0 else l.back))) l.lits learned.first
      go false e = learned.unit_back
      go true e =
          let only = one_item l.lits learned.first (eqb-true (length l.lits) 1 e) learned.is_first in
          record {
            is_in = learned.unit_back.is_in;
            is_open = record {
              not_true = λ c. learned.unit_back.is_open.not_true (undone_less t 0 l.back learned.first are (omega arith) c);
              not_false = λ c. learned.unit_back.is_open.not_false (undone_less t 0 l.back (negation learned.first)
                  are (omega arith) c);
            };
            others = λ other c d. absurd (d (alone other (subst (λ (ls : List Lit). Contains ls other) only c)));
          }
        where
          alone : (other : Lit) → Contains (learned.first ∷ []) other → other ≡ learned.first
          alone other c = by (stands_at (learned.first ∷ []) other c)
            where
              by : (k : ℕ) × (slice_get (learned.first ∷ []) k ≡ Some other) → other ≡ learned.first
              by (zero, is) = sym (same_Some learned.first other is)
              by (suc k, is) = let no : ⊥ = cc in absurd no

  pub learned_due : IsDueTo (undone t (lowest_back l)) l.lits
  learned_due first second rest is = go (length l.lits == 1) refl
    where
      go : (b : Bool) → (length l.lits == 1) ≡ b → IsOpen (lits_of (undone t (if b then 0 else l.back))) first
          × ((i start : ℕ) → slice_get (undone t (if b then 0 else l.back)).starts i ≡ Some start
          → Contains (take start (lits_of (undone t (if b then 0 else l.back)))) (negation second) → ⊥)
      go false e = learned.due first second rest is
      go true e = absurd (omega (arith, eqb-true (length l.lits) 1 e, ap length is))

  pub learned_lower : lowest_back l < length t.starts
  learned_lower = go (length l.lits == 1)
    where
      go : (b : Bool) → (if b then 0 else l.back) < length t.starts
      go false = learned.lower
      go true = omega (arith, learned.lower)

pub learned_of : (s new : State) (a : Arena) (l : Learned) (learned : IsLearned a s.trail l) → AreReordered
    (clauses_of s.steps) a.clauses → s.trail.vars ≡ vars_of s
    → AreEntries s.trail → All (IsAtRest (lits_below s.trail)) (clauses_of s.steps) → new.frame ≡ s.frame
    → new.refuted ≡ s.refuted
    → new.steps ≡ s.steps ++ Learn l.lits l.hints true ∷ [] → new.trail ≡ implied (undone s.trail (lowest_back l))
    learned.first (length s.steps) → HasLearned s new
learned_of s new a l learned re vars are quiet frame refuted steps trail =
    record {
      lits = l.lits;
      hints = l.hints;
      frame = frame;
      refuted = refuted;
      steps = steps;
      derived = derived_of s a s.trail l.lits l.hints re vars learned.derived;
      is_new = new_clause (lits_below s.trail) l.lits learned.first
          (front_of_trail_consistent s.trail (entries_up_to s.trail (length s.trail.starts - 1)) are) learned.unit_below
          (clauses_of s.steps) l.hints quiet;
      back = lowest_back l;
      lower = learned_lower a s.trail l learned are;
      first = learned.first;
      trail = trail;
    }

pub concluded_of : (s new : State) (a : Arena) (lits : List Lit) (hints : List ℕ) → AreReordered (clauses_of s.steps)
    a.clauses → s.trail.vars ≡ vars_of s
    → IsDerived a s.trail lits hints → new.frame ≡ s.frame → new.steps ≡ s.steps ++ Learn lits hints false ∷ []
    → new.trail.starts ≡ [] → HasConcluded s new lits
concluded_of s new a lits hints re vars derived frame steps starts =
    record {
      hints = hints;
      frame = frame;
      steps = steps;
      derived = derived_of s a s.trail lits hints re vars
          derived;
      starts = starts;
    }

-- by other names
pub learned_as : (s old new : State) → s ≡ old → HasLearned s new → HasLearned old new
learned_as s old new same h = subst (λ (u : State). HasLearned u new) same h

pub concluded_as : (s old new : State) (lits clause : List Lit) → s ≡ old → lits ≡ clause → HasConcluded s new lits
    → HasConcluded old new clause
concluded_as s old new lits clause same is h = subst (HasConcluded old new) is
    (subst (λ (u : State). HasConcluded u new lits) same h)

pub refuted_as : (s old new : State) (lits : List Lit) → s ≡ old → HasConcluded s new lits → AreOfAssumed s.trail
    lits → HasRefuted old new
refuted_as s old new lits same h assumed = subst (λ (u : State). HasRefuted u new) same
    (record { lits = lits; concluded = h; assumed = assumed })
