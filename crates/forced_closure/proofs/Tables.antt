-- A table of slots, and pairs told one after another.
use Rattle.std.proofs.Common.{◌≡◌, ◌≢◌, ◌↔◌, ◌⊎◌, ◌+◌, ◌<◌, ◌≤◌, ◌∙◌, ℕ, Bool, true, false, List, [], ◌∷◌, ◌++◌, Some, Contains, length, take, get_or, set, replicate, slice_get, sym, ap, subst, inl, inr, ⊎_elim, arith}
use Rattle.std.proofs.lemmas.Bool.{false≢true, cases_eq}
use Rattle.std.proofs.lemmas.List.{length_push, length-set, length-replicate, get_or-replicate, get_or-set_same, get_or-set_other, take_more, take_all}
use Rattle.std.proofs.lemmas.List.Elements.{Contains-push, Contains-push_cases, Contains-append_left}
use Rattle.std.proofs.lemmas.Option.{none-some, same_Some, slice_get_within, get_or_from_slice_get}
use Rattle.horn_closure.specs.Least.{IsAmong}
use Rattle.horn_closure.specs.declared.derived.Derived.{Derived}
use Rattle.order_squares.proofs.Places.{get_cases, get_only}
use Rattle.forced_closure.specs.Clauses.{Subject}
use Rattle.forced_closure.specs.Kept.{ArePairsOfCells, IsPairOfCell, IsTable}
use Rattle.forced_closure.specs.declared.forced.Forced.{Forced}
use Rattle.forced_closure.specs.declared.origin.Origin.{Origin}
use Rattle.forced_closure.proofs.Adding.{not_in}

-- ---- a table

pub table_none : (cells : ℕ) (table : List Bool) → table ≡ replicate cells false → IsTable cells [] table
table_none cells table e = record {
  many = ap length e ∙ length-replicate cells false;
  each = λ slot below. (
    (λ is. absurd (false≢true (sym (ap (λ (t : List Bool). get_or t slot false) e ∙ get_or-replicate cells slot false
        false below) ∙ is))),
    (λ among. absurd (not_in among.one among.is_in)),
  );
}

among_more : (derived : List Derived) (d : Derived) (slot : ℕ) → IsAmong derived slot → IsAmong (derived ++ d ∷ []) slot
among_more derived d slot a = record {
  one = a.one;
  is_in = Contains-append_left derived (d ∷ []) a.one a.is_in;
  slot_is = a.slot_is;
}

among_cases : (derived : List Derived) (d : Derived) (slot : ℕ) → IsAmong (derived ++ d ∷ []) slot
    → IsAmong derived slot ⊎ (d.slot ≡ slot)
among_cases derived d slot a =
    ⊎_elim (λ (old : Contains derived a.one). inl (record { one = a.one; is_in = old; slot_is = a.slot_is }))
    (λ (new : d ≡ a.one). inr (ap (λ (x : Derived). x.slot) new ∙ a.slot_is)) (Contains-push_cases derived d a.one a.is_in)

table_more : (cells : ℕ) (derived : List Derived) (d : Derived) (table : List Bool) → IsTable cells derived table → d.slot < cells
    → IsTable cells (derived ++ d ∷ []) (set table d.slot true)
table_more cells derived d table is within = record {
  many = length-set table d.slot true ∙ is.many;
  each = λ slot below. by slot below (cases_eq slot d.slot);
}
  where
    by : (slot : ℕ) → slot < cells → (slot ≡ d.slot) ⊎ (slot ≢ d.slot) →
        (get_or (set table d.slot true) slot false ≡ true) ↔ IsAmong (derived ++ d ∷ []) slot
    by slot below (inl same) = (
      (λ is_true. record { one = d; is_in = Contains-push derived d; slot_is = sym same }),
      (λ among. ap (λ n. get_or (set table d.slot true) n false) same ∙ get_or-set_same table d.slot true false
          (omega (arith, is.many, within))),
    )
    by slot below (inr other) =
        let stays = get_or-set_other table d.slot slot true false other in (
          (λ is_true. among_more derived d slot ((is.each slot below).0 (sym stays ∙ is_true))),
          (λ among.
              ⊎_elim (λ (old : IsAmong derived slot). stays ∙ (is.each slot below).1 old)
              (λ (new : d.slot ≡ slot). absurd (other (sym new)))
              (among_cases derived d slot among)),
        )

pub table_next : (cells : ℕ) (derived : List Derived) (i : ℕ) (d : Derived) (table new : List Bool)
    → slice_get derived i ≡ Some d → d.slot < cells
    → IsTable cells (take i derived) table → new ≡ set table d.slot true → IsTable cells (take (i + 1) derived) new
table_next cells derived i d table new at within is e =
    let more : take (i + 1) derived ≡ take i derived ++ d ∷ [] =
    take_more derived i d (slice_get_within derived i d at) ∙ ap (λ x. take i derived ++ x ∷ [])
    (get_or_from_slice_get derived i d d at) in
    subst (λ (xs : List Derived). IsTable cells xs new) (sym more) (subst (IsTable cells (take i derived ++ d ∷ []))
    (sym e) (table_more cells (take i derived) d table is within))

pub table_all : (cells : ℕ) (derived : List Derived) (i : ℕ) (table : List Bool) → length derived ≤ i → IsTable cells
    (take i derived) table → IsTable cells derived table
table_all cells derived i table past is = subst (λ (xs : List Derived). IsTable cells xs table) (take_all i derived past) is

-- ---- pairs

pub no_pairs : (m : Subject) (origins : List Origin) (derived : List Derived) (pairs : List Forced) → pairs ≡ []
    → ArePairsOfCells m origins derived pairs 0
no_pairs m origins derived pairs e = record {
  many = ap length e;
  each = λ i d f at_d at_f. absurd (none-some f (sym (ap (λ (xs : List Forced). slice_get xs i) e) ∙ at_f));
}

pub next_pair : (m : Subject) (origins : List Origin) (derived : List Derived) (pairs new : List Forced) (n : ℕ)
    (d : Derived) (f : Forced) → slice_get derived n ≡ Some d
    → ArePairsOfCells m origins derived pairs n → IsPairOfCell m origins d f → new ≡ pairs ++ f ∷ []
    → ArePairsOfCells m origins derived new (n + 1)
next_pair m origins derived pairs new n d f at are told e = record {
  many = ap length e ∙ (length_push pairs f ∙ ap (λ k. k + 1) are.many);
  each = λ i d' f' at_d at_f. by i d' f' at_d
      (get_cases pairs (f ∷ []) i f' (sym (ap (λ (xs : List Forced). slice_get xs i) e) ∙ at_f));
}
  where
    by : (i : ℕ) (d' : Derived) (f' : Forced) → slice_get derived i ≡ Some d' → (slice_get pairs i ≡ Some f') ⊎
        ((j : ℕ) × (i ≡ length pairs + j) × (slice_get (f ∷ []) j ≡ Some f'))
        → IsPairOfCell m origins d' f'
    by i d' f' at_d (inl old) = are.each i d' f' at_d old
    by i d' f' at_d (inr (j, is, at_f)) =
        let only = get_only f j f' at_f in
        let place : i ≡ n = omega (arith, is, only.0, are.many) in
        let cell = same_Some d d' (sym at ∙ (ap (slice_get derived) (sym place) ∙ at_d)) in
        subst (λ (x : Derived). IsPairOfCell m origins x f') cell (subst (IsPairOfCell m origins d) only.1 told)

pub all_pairs : (m : Subject) (origins : List Origin) (derived : List Derived) (pairs : List Forced) (n : ℕ)
    → n ≡ length derived → ArePairsOfCells m origins derived pairs n
    → ArePairsOfCells m origins derived pairs (length derived)
all_pairs m origins derived pairs n all are = record { many = are.many ∙ all; each = are.each }
