-- Which pairs stand in the list of the copied pairs.
use Rattle.std.proofs.Common.{◌≡◌, ◌≢◌, ◌⊎◌, ◌==◌, ◌&&◌, ◌+◌, ◌<◌, ℕ, Bool, zero, suc, true, false, not, List, [], ◌∷◌, ◌++◌, Option, Some, None, length, slice_get, refl, sym, ap, ◌∙◌, inl, inr, arith}
use Rattle.std.proofs.lemmas.Bool.{false≢true}
use Rattle.std.proofs.lemmas.Bool.Decides.{eqb_tells}
use Rattle.std.proofs.lemmas.Option.{none-some}
use Rattle.currency_base.specs.declared.ids.RowId.{RowId}
use Rattle.currency_base.specs.declared.row.Row.{Row}
use Rattle.partial_orders.specs.Pairs.{entity_of}
use Rattle.copy_functions.specs.Copies.{CopyFunction, source_at}
use Rattle.copied_pairs.specs.declared.pairs.CopiedPair.{CopiedPair}
use Rattle.copied_pairs.specs.Listing.{same_entity, goes_with}

-- ---- the test

-- a row copied from another row of the same entity
pub record IsPartner (copy : CopyFunction) (source : List Row) (from second : RowId) : Type 0 where
  pub other : RowId
  pub copied : source_at copy second ≡ Some other
  pub sources_differ : from ≢ other
  pub ent : ℕ
  pub from_of : entity_of source from.0 ≡ Some ent
  pub other_of : entity_of source other.0 ≡ Some ent

both_true : (a b : Bool) → (a && b) ≡ true → (a ≡ true) × (b ≡ true)
both_true true b h = (refl, h)
both_true false b h = absurd (false≢true h)

not_true : (b : Bool) → not b ≡ true → b ≡ false
not_true true h = absurd (false≢true h)
not_true false h = refl

unequal : (a b : RowId) → (a.0 == b.0) ≡ false → b ≢ a
unequal a b h same = by (eqb_tells a.0 b.0)
  where
    by : (((a.0 == b.0) ≡ true) × (a.0 ≡ b.0)) ⊎ (((a.0 == b.0) ≡ false) × (a.0 ≢ b.0)) → ⊥
    by (inl e) = false≢true (sym h ∙ e.0)
    by (inr e) = e.1 (ap (λ (r : RowId). r.0) (sym same))

unequal_test : (a b : RowId) → b ≢ a → (a.0 == b.0) ≡ false
unequal_test a b differ = by (eqb_tells a.0 b.0)
  where
    by : (((a.0 == b.0) ≡ true) × (a.0 ≡ b.0)) ⊎ (((a.0 == b.0) ≡ false) × (a.0 ≢ b.0)) → (a.0 == b.0) ≡ false
    by (inl e) = absurd (differ (ap (λ (n : ℕ). let r : RowId = record { 0 = n } in r) (sym e.1)))
    by (inr e) = e.0

one_entity : (a b : Option ℕ) → same_entity a b ≡ true → (ent : ℕ) × (a ≡ Some ent) × (b ≡ Some ent)
one_entity None b h = absurd (false≢true h)
one_entity (Some x) None h = absurd (false≢true h)
one_entity (Some x) (Some y) h = by (eqb_tells x y)
  where
    by : (((x == y) ≡ true) × (x ≡ y)) ⊎ (((x == y) ≡ false) × (x ≢ y)) → (ent : ℕ) × (Some x ≡ Some ent) × (Some y ≡ Some ent)
    by (inl e) = (x, refl, ap Some (sym e.1))
    by (inr e) = absurd (false≢true (sym e.0 ∙ h))

same_test : (ent : ℕ) → (ent == ent) ≡ true
same_test ent = by (eqb_tells ent ent)
  where
    by : (((ent == ent) ≡ true) × (ent ≡ ent)) ⊎ (((ent == ent) ≡ false) × (ent ≢ ent)) → (ent == ent) ≡ true
    by (inl e) = e.0
    by (inr e) = absurd (e.1 refl)

pub partner_from_test : (copy : CopyFunction) (source : List Row) (from second : RowId) → goes_with source from
    (source_at copy second) ≡ true
    → IsPartner copy source from second
partner_from_test copy source from second h = by (source_at copy second) refl h
  where
    by : (o : Option RowId) → source_at copy second ≡ o → goes_with source from o ≡ true → IsPartner copy source from second
    by None is h = absurd (false≢true h)
    by (Some other) is h =
        let parts = both_true (not (other.0 == from.0)) (same_entity (entity_of source from.0) (entity_of source other.0)) h in
        let one = one_entity (entity_of source from.0) (entity_of source other.0) parts.1 in
        record {
          other = other;
          copied = is;
          sources_differ = unequal other from (not_true (other.0 == from.0) parts.0);
          ent = one.0;
          from_of = one.1;
          other_of = one.2;
        }

pub test_from_partner : (copy : CopyFunction) (source : List Row) (from second : RowId) → IsPartner copy source from second
    → goes_with source from (source_at copy second) ≡ true
test_from_partner copy source from second p =
    let sources = unequal_test p.other from p.sources_differ in
    rw (p.copied, sources, p.from_of, p.other_of) (same_test p.ent)

-- ---- lists

-- an item stands in the list
abbrev pub StandsIn : List CopiedPair → CopiedPair → Type 0
StandsIn pairs p = (i : ℕ) × (slice_get pairs i ≡ Some p)

-- a place of two lists joined is one of the first or one of the second
pub record IsBehind (front rest : List CopiedPair) (i : ℕ) (p : CopiedPair) : Type 0 where
  pub place : ℕ
  pub number : i ≡ length front + place
  pub at : slice_get rest place ≡ Some p

pub joined_cases : (front rest : List CopiedPair) (i : ℕ) (p : CopiedPair) → slice_get (front ++ rest) i ≡ Some p
    → ((slice_get front i ≡ Some p) × (i < length front)) ⊎ IsBehind front rest i p
joined_cases [] rest i p at = inr (record { place = i; number = omega arith; at = at })
joined_cases (x ∷ front) rest zero p at = inl (at, omega arith)
joined_cases (x ∷ front) rest (suc i) p at = by (joined_cases front rest i p at)
  where
    by : ((slice_get front i ≡ Some p) × (i < length front)) ⊎ IsBehind front rest i p
        → ((slice_get front i ≡ Some p) × (suc i < suc (length front))) ⊎ IsBehind (x ∷ front) rest (suc i) p
    by (inl h) = inl (h.0, omega (arith, h.1))
    by (inr h) = inr (record { place = h.place; number = omega (arith, h.number); at = h.at })

left_of : (front rest : List CopiedPair) (i : ℕ) (p : CopiedPair) → slice_get front i ≡ Some p
    → slice_get (front ++ rest) i ≡ Some p
left_of [] rest i p at = absurd (none-some p at)
left_of (x ∷ front) rest zero p at = at
left_of (x ∷ front) rest (suc i) p at = left_of front rest i p at

pub in_front : (front rest : List CopiedPair) (p : CopiedPair) → StandsIn front p → StandsIn (front ++ rest) p
in_front front rest p h = (h.0, left_of front rest h.0 p h.1)

pub in_rest : (front rest : List CopiedPair) (p : CopiedPair) → StandsIn rest p → StandsIn (front ++ rest) p
in_rest [] rest p h = h
in_rest (x ∷ front) rest p h =
    let found = in_rest front rest p h in
    (suc found.0, found.1)
