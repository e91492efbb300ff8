-- The literals of a trail: none stands beside its negation; and whether a literal is among others.
use Rattle.std.proofs.Common.{◌≡◌, ◌≢◌, ◌⊎◌, ◌+◌, ◌*◌, ◌/◌, ◌%◌, ◌==◌, ◌∙◌, ℕ, zero, suc, Bool, true, false, if◌then◌else◌, List, [], ◌∷◌, Some, None, Option, Contains, map, take, slice_get, option_map, refl, sym, ap, inl, inr, arith}
use Rattle.std.proofs.lemmas.Bool.{cases_eq, eqb-true, eqb-false}
use Rattle.std.proofs.lemmas.List.Elements.{Contains-append_cases, Contains-append_right}
use Rattle.std.proofs.lemmas.Option.{slice_get-map}
use Rattle.currency_base.specs.Literals.{var_of, negation}
use Rattle.currency_base.specs.declared.lit.Lit.{Lit}
use Rattle.refutation_log.specs.Counted.{IsConsistent}
use Rattle.search_trail.specs.Trails.{AreEntries, Entry, Trail, lits_of}
use Rattle.watch_propagate.proofs.KeptLists.{from_front, same_get, stands_at}

-- the literal of that number
abbrev lit_of : ℕ → Lit
lit_of n = record { 0 = n }

-- a literal and its negation are of one variable, and differ
record AreOpposite (lit other : Lit) : Type 0 where
  pub same : var_of other ≡ var_of lit
  pub differ : other ≢ lit

opposite : (lit : Lit) → AreOpposite lit (negation lit)
opposite lit = go (lit.0 % 2 == 1) refl
  where
    flipped : Bool → Lit
    flipped b = if b then lit_of (2 * (lit.0 / 2)) else lit_of (2 * (lit.0 / 2) + 1)

    go : (b : Bool) → (lit.0 % 2 == 1) ≡ b → AreOpposite lit (flipped (lit.0 % 2 == 1))
    go true e =
        let odd = eqb-true (lit.0 % 2) 1 e in
        rw e (record {
          same = omega arith;
          differ = λ s. let n : 2 * (lit.0 / 2) ≡ lit.0 = ap (λ (l : Lit). l.0)
              s in omega (arith, n, odd);
        })
    go false e =
        let even = eqb-false (lit.0 % 2) 1 e in
        rw e (record {
          same = omega arith;
          differ = λ s. let n : 2 * (lit.0 / 2) + 1 ≡ lit.0 = ap (λ (l : Lit). l.0)
              s in absurd (omega (arith, n, even));
        })

-- no literal of a trail stands beside its negation
pub lits_consistent : (t : Trail) → AreEntries t → IsConsistent (lits_of t)
lits_consistent t are lit there negated =
    let one = stands_at (lits_of t) lit there in
    let other = stands_at (lits_of t) (negation lit) negated in
    let here : slice_get (map (λ (e : Entry). var_of e.lit) t.entries) one.0 ≡ Some (var_of lit) = var_at one.0 lit one.1 in
    let same : one.0 ≡ other.0 = are.once one.0 other.0 (var_of lit) here (var_at other.0 (negation lit) other.1
    ∙ ap Some (opposite lit).same) in
    (opposite lit).differ (same_get (lits_of t) other.0 (negation lit) lit other.1
    (ap (slice_get (lits_of t)) (sym same) ∙ one.1))
  where
    var_at : (i : ℕ) (l : Lit) → slice_get (lits_of t) i ≡ Some l
        → slice_get (map (λ (e : Entry). var_of e.lit) t.entries) i ≡ Some (var_of l)
    var_at i l is =
        slice_get-map (λ (e : Entry). var_of e.lit) t.entries i
        ∙ by (slice_get t.entries i) (sym (slice_get-map (λ (e : Entry). e.lit) t.entries i) ∙ is)
      where
        by : (o : Option Entry) → option_map (λ (e : Entry). e.lit) o ≡ Some l → option_map
            (λ (e : Entry). var_of e.lit) o ≡ Some (var_of l)
        by (Some e) at = ap (λ (o : Option Lit). option_map var_of o) at
        by None at = let no : ⊥ = cc in absurd no

-- nor in a front of them
pub front_consistent : (n : ℕ) (lits : List Lit) → IsConsistent lits → IsConsistent (take n lits)
front_consistent n lits is lit there negated = is lit (from_front n lits lit there) (from_front n lits (negation lit) negated)

pub front_of_trail_consistent : (t : Trail) (n : ℕ) → AreEntries t → IsConsistent (take n (lits_of t))
front_of_trail_consistent t n are = front_consistent n (lits_of t) (lits_consistent t are)

-- two literals are the same or not
pub same_lit : (x y : Lit) → (x ≡ y) ⊎ (x ≡ y → ⊥)
same_lit x y = go (cases_eq x.0 y.0)
  where
    go : (x.0 ≡ y.0) ⊎ (x.0 ≡ y.0 → ⊥) → (x ≡ y) ⊎ (x ≡ y → ⊥)
    go (inl e) = inl (ap lit_of e)
    go (inr d) = inr (λ e. d (ap (λ (l : Lit). l.0) e))

-- a literal is among others or not
pub among : (lits : List Lit) (lit : Lit) → Contains lits lit ⊎ (Contains lits lit → ⊥)
among [] lit = inr (λ c. omega (arith, c.1))
among (x ∷ lits) lit = go (same_lit x lit) (among lits lit)
  where
    only : Contains (x ∷ []) lit → x ≡ lit
    only (zero, h, is) = is
    only (suc k, h, is) = absurd (omega (arith, h))

    go : (x ≡ lit) ⊎ (x ≡ lit → ⊥) → Contains lits lit ⊎ (Contains lits lit → ⊥) → Contains (x ∷ lits) lit ⊎
        (Contains (x ∷ lits) lit → ⊥)
    go (inl e) more = inl (0, omega arith, e)
    go (inr d) (inl c) = inl (Contains-append_right (x ∷ []) lits lit c)
    go (inr d) (inr out) = inr (λ c. neither (Contains-append_cases (x ∷ []) lits lit c))
      where
        neither : Contains (x ∷ []) lit ⊎ Contains lits lit → ⊥
        neither (inl c) = d (only c)
        neither (inr c) = out c
