-- A consistent completion of each of some parts, by the part's place among them.
use Rattle.std.proofs.Common.{◌≡◌, ◌∙◌, ◌==◌, ℕ, Bool, true, false, if◌then◌else◌, List, [], All, Option, Some, None, slice_get, refl, sym, ap, subst}
use Rattle.std.proofs.lemmas.Bool.{eqb-true}
use Rattle.std.proofs.lemmas.Option.{same_Some, none-some}
use Rattle.part_laws.proofs.Rows.{all_at}
use Rattle.spec_model.specs.Completion.{Rankings}
use Rattle.spec_model.specs.Consistent.{IsConsistent, IsSatisfiable}
use Rattle.many_parts.specs.ManyParts.{Part}
use Rattle.many_parts.proofs.FirstPlaces.{same_test}

-- a completion for each place, consistent where a part stands there
abbrev pub AreChosen : List Part → (ℕ → Rankings) → Type 0
AreChosen parts chosen = (i : ℕ) (p : Part) → slice_get parts i ≡ Some p → IsConsistent p.spec (chosen i)

-- one for the part at a place, if there is one
pub record OneChosen (parts : List Part) (i : ℕ) : Type 0 where
  pub c : Rankings
  pub is : (p : Part) → slice_get parts i ≡ Some p → IsConsistent p.spec c

pub one_chosen : (parts : List Part) → All (λ p. IsSatisfiable p.spec) parts → (i : ℕ) → OneChosen parts i
one_chosen parts consistent i = go (slice_get parts i) refl
  where
    go : (o : Option Part) → slice_get parts i ≡ o → OneChosen parts i
    go None e = record { c = []; is = λ p at. absurd (none-some p (sym e ∙ at)) }
    go (Some q) e =
        let found = all_at (λ (x : Part). IsSatisfiable x.spec) parts i q consistent e in
        record {
          c = found.0;
          is = λ p at. subst (λ (x : Part). IsConsistent x.spec found.0) (same_Some q p (sym e ∙ at)) found.1;
        }

-- where each part has one
abbrev pub chosen_of : (parts : List Part) → All (λ p. IsSatisfiable p.spec) parts → ℕ → Rankings
chosen_of parts consistent i = (one_chosen parts consistent i).c

pub are_chosen : (parts : List Part) (consistent : All (λ p. IsSatisfiable p.spec) parts) → AreChosen parts
    (chosen_of parts consistent)
are_chosen parts consistent i = (one_chosen parts consistent i).is

-- ---- another one at one place

abbrev pub with_chosen : (ℕ → Rankings) → ℕ → Rankings → ℕ → Rankings
with_chosen chosen at c i = if i == at then c else chosen i

pub with_chosen_at : (chosen : ℕ → Rankings) (at : ℕ) (c : Rankings) → with_chosen chosen at c at ≡ c
with_chosen_at chosen at c = ap (λ (b : Bool). if b then c else chosen at) (same_test at)

pub are_chosen_with : (parts : List Part) (chosen : ℕ → Rankings) (at : ℕ) (q : Part) (c : Rankings) → AreChosen parts chosen
    → slice_get parts at ≡ Some q → IsConsistent q.spec c → AreChosen parts (with_chosen chosen at c)
are_chosen_with parts chosen at q c are at_q consistent i p at_p = go (i == at) refl
  where
    go : (b : Bool) → (i == at) ≡ b → IsConsistent p.spec (if b then c else chosen i)
    go true e =
        let same = same_Some q p (sym at_q ∙ (sym (ap (slice_get parts) (eqb-true i at e)) ∙ at_p)) in
        subst (λ (x : Part). IsConsistent x.spec c) same consistent
    go false e = are i p at_p
