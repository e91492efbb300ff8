-- Where all entries have been gone through, unit propagation is at rest on each watched clause.
use Rattle.std.proofs.Common.{◌≡◌, ◌⊎◌, ◌∙◌, ℕ, Bool, true, false, not, List, Option, Some, None, Contains, length, take, refl, ap, subst, inl, inr, arith}
use Rattle.std.proofs.lemmas.List.{length-map, take_all}
use Rattle.currency_base.specs.Lists.{OnlyOnce}
use Rattle.currency_base.specs.Literals.{is_negative, negation, var_of}
use Rattle.currency_base.specs.declared.lit.Lit.{Lit}
use Rattle.clause_arena.specs.Arenas.{Arena, AreWatchers, IsWatched}
use Rattle.search_trail.specs.Trails.{AreEntries, Entry, Trail, lits_of, value_in}
use Rattle.refutation_log.specs.Counted.{IsAtRest, IsOpen}
use Rattle.watch_propagate.specs.WatchRule.{AreAtRest, IsGuarded, KeepsWatch}
use Rattle.watch_propagate.proofs.WalkItems.{all_at}
use Rattle.watch_propagate.proofs.WalkLits.{contains_at, negation_var, value_false, value_open, value_true}

-- a literal is true, or false, or open
pub sides_of : (lits : List Lit) (lit : Lit) → Contains lits lit ⊎ (Contains lits (negation lit) ⊎ IsOpen lits lit)
sides_of lits lit = by (value_in lits (var_of lit)) (is_negative lit) refl refl
  where
    by : (o : Option Bool) (negative : Bool) → value_in lits (var_of lit) ≡ o → is_negative lit ≡ negative
        → Contains lits lit ⊎ (Contains lits (negation lit) ⊎ IsOpen lits lit)
    by None negative none sign =
        inr (inr (record {
          not_true = value_open lits lit lit none refl;
          not_false = value_open lits lit
              (negation lit) none (negation_var lit);
        }))
    by (Some true) true some sign = inr (inl (value_false lits lit true some sign))
    by (Some true) false some sign = inl (value_true lits lit true some (ap not sign))
    by (Some false) true some sign = inl (value_true lits lit false some (ap not sign))
    by (Some false) false some sign = inr (inl (value_false lits lit false some sign))

-- a clause whose watched literals guard each other
pub rests : (a : Arena) (lits : List Lit) (clause : ℕ) (w : IsWatched a clause) → AreWatchers a → IsGuarded lits lits
    w.first w.second → IsAtRest lits w.lits
rests a lits clause w are g = go (sides_of lits w.first) (sides_of lits w.second)
  where
    first_in : Contains w.lits w.first
    first_in = contains_at w.lits 0 w.first w.is_first

    second_in : Contains w.lits w.second
    second_in = contains_at w.lits 1 w.second w.is_second

    differ : w.first ≡ w.second → ⊥
    differ e =
        let once = all_at OnlyOnce a.clauses clause w.lits are.distinct w.is_clause in
        let same : 0 ≡ 1 = once 0 1 w.second (w.is_first ∙ ap Some e) w.is_second in
        omega (arith, same)

    go : Contains lits w.first ⊎ (Contains lits (negation w.first) ⊎ IsOpen lits w.first) → Contains lits w.second ⊎
        (Contains lits (negation w.second) ⊎ IsOpen lits w.second)
        → IsAtRest lits w.lits
    go (inl c) second = inl (record { lit = w.first; is_in = first_in; is_true = c })
    go (inr first) (inl c) = inl (record { lit = w.second; is_in = second_in; is_true = c })
    go (inr (inl n)) (inr second) = inl (record { lit = w.second; is_in = second_in; is_true = g.first_false n })
    go (inr (inr o)) (inr (inl n)) = inl (record { lit = w.first; is_in = first_in; is_true = g.second_false n })
    go (inr (inr o)) (inr (inr p)) =
        inr (record {
          first = w.first;
          second = w.second;
          differ = differ;
          first_in = first_in;
          second_in =
              second_in;
          first_open = o;
          second_open = p;
        })

pub at_rest_at_end : (a : Arena) (t : Trail) → AreWatchers a → AreEntries t → KeepsWatch a t
    → t.gone ≡ length t.entries → AreAtRest a (lits_of t)
at_rest_at_end a t are entries rule gone = λ clause w.
    let all : take t.gone (lits_of t) ≡ lits_of t = take_all t.gone (lits_of t)
    (omega (arith, gone, length-map t.entries (λ (e : Entry). e.lit))) in
    rests a (lits_of t) clause w are (subst (λ (ls : List Lit). IsGuarded ls (lits_of t) w.first w.second) all
    ((rule.guarded clause w).at_present))
