-- The hints of axioms on three rows, row by row; and what a loop over names keeps.
use Rattle.std.proofs.Common.{◌≡◌, ◌<◌, ◌∙◌, ◌+◌, ℕ, suc, List, [], ◌∷◌, ◌++◌, Contains, refl, sym, ap, subst, ⊎_elim, arith}
use Rattle.std.proofs.lemmas.Bool.{cases_eq}
use Rattle.std.proofs.lemmas.List.{append-nil, append_assoc}
use Rattle.std.proofs.lemmas.List.Elements.{Contains-append_left, Contains-push, Contains-push_cases}
use Rattle.currency_base.specs.declared.lit.Lit.{Lit}
use Rattle.last_rows.specs.Hints.{known_hints, three_hint, three_hints}
use Rattle.last_rows.specs.Rows.{Literals, later_of, later_place_of}
use Rattle.last_rows.specs.Underway.{AreNames}
use Rattle.last_rows.specs.declared.rows.RowList.{RowList}
use Rattle.last_rows.proofs.Below.{in_none, once_none, once_push}

pub three_none : (l : RowList) (own later : ℕ) → three_hints l own later 0 ≡ []
unfolding three_hints
three_none l own later = refl

three_next : (l : RowList) (own later n : ℕ) → three_hints l own later (n + 1) ≡ three_hints l own later n ++ three_hint l own later n
unfolding three_hints
three_next l own later n = let next : n + 1 ≡ suc n = omega arith in rw next refl

pub three_push : (l : RowList) (own later n : ℕ) (old now new : List ℕ) → now ≡ old ++ three_hints l own later n
    → new ≡ now ++ three_hint l own later n → new ≡ old ++ three_hints l own later (n + 1)
three_push l own later n old now new before is =
    is ∙ ap (λ (hs : List ℕ). hs ++ three_hint l own later n) before
    ∙ append_assoc old (three_hints l own later n) (three_hint l own later n)
    ∙ ap (λ (hs : List ℕ). old ++ hs) (sym (three_next l own later n))

pub three_start : (l : RowList) (own later : ℕ) (old : List ℕ) → old ≡ old ++ three_hints l own later 0
three_start l own later old = sym (ap (λ (hs : List ℕ). old ++ hs) (three_none l own later) ∙ append-nil old)

-- ---- those of the rows behind the kept ones

pub known_none : (l : RowList) (own : ℕ) → known_hints l own 0 ≡ []
unfolding known_hints
known_none l own = refl

pub known_next : (l : RowList) (own n : ℕ) → known_hints l own (n + 1)
    ≡ (known_hints l own n ++ later_place_of l (l.kept + n) ∷ []) ++ three_hint l own (l.kept + n) (later_of l (l.kept + n))
unfolding known_hints
known_next l own n = let next : n + 1 ≡ suc n = omega arith in rw next refl

pub known_push : (l : RowList) (own n : ℕ) (old now new : List ℕ) → now ≡ old ++ known_hints l own n
    → new ≡ (now ++ later_place_of l (l.kept + n) ∷ []) ++ three_hint l own (l.kept + n) (later_of l (l.kept + n))
    → new ≡ old ++ known_hints l own (n + 1)
known_push l own n old now new before is =
    let place = later_place_of l (l.kept + n) in
    let three = three_hint l own (l.kept + n) (later_of l (l.kept + n)) in
    is ∙ ap (λ (hs : List ℕ). (hs ++ place ∷ []) ++ three) before
    ∙ ap (λ (hs : List ℕ). hs ++ three) (append_assoc old (known_hints l own n) (place ∷ []))
    ∙ append_assoc old (known_hints l own n ++ place ∷ []) three
    ∙ ap (λ (hs : List ℕ). old ++ hs) (sym (known_next l own n))

pub known_start : (l : RowList) (own : ℕ) (old : List ℕ) → old ≡ old ++ known_hints l own 0
known_start l own old = sym (ap (λ (hs : List ℕ). old ++ hs) (known_none l own) ∙ append-nil old)

-- ---- names

pub names_none : (l : Literals) → AreNames l 0 []
names_none l = record {
  each = λ lit h. absurd (in_none lit h);
  all = λ row below. absurd (omega (arith, below));
  once = once_none;
}

pub names_there : (l : Literals) (n : ℕ) (lits : List Lit) → AreNames l n lits → Contains lits (l.name n) → AreNames l (n + 1) lits
names_there l n lits were there = record {
  each = λ lit h. let m = were.each lit h in (m.0, (let w = m.1 in omega (arith, w)), m.2);
  all = λ row below. ⊎_elim
      (λ (e : row ≡ n). subst (λ (k : ℕ). Contains lits (l.name k)) (sym e) there)
      (λ (ne : row ≡ n → ⊥). were.all row (let w : row < n = grind (arith, below, ne) in w))
      (cases_eq row n);
  once = were.once;
}

pub names_more : (l : Literals) (n : ℕ) (lits new : List Lit) → AreNames l n lits → (Contains lits (l.name n) → ⊥)
    → new ≡ lits ++ l.name n ∷ [] → AreNames l (n + 1) new
names_more l n lits new were fresh is = subst (AreNames l (n + 1)) (sym is) (record {
  each = λ lit h. ⊎_elim
      (λ (p : Contains lits lit). let m = were.each lit p in (m.0, (let w = m.1 in omega (arith, w)), m.2))
      (λ (p : l.name n ≡ lit). (n, omega arith, sym p))
      (Contains-push_cases lits (l.name n) lit h);
  all = λ row below. ⊎_elim
      (λ (e : row ≡ n). subst (λ (k : ℕ). Contains (lits ++ l.name n ∷ []) (l.name k)) (sym e) (Contains-push lits (l.name n)))
      (λ (ne : row ≡ n → ⊥). Contains-append_left lits (l.name n ∷ []) (l.name row) (were.all row (let w : row < n = grind (
        arith,
        below,
        ne,
      ) in w)))
      (cases_eq row n);
  once = once_push lits (l.name n) were.once fresh;
})
