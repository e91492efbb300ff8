-- What is certain of a part's rows, or possible, is so in the part exactly where it is in the whole.
use Rattle.std.proofs.Common.{◌≡◌, ◌<◌, ◌∙◌, ◌↔◌, ℕ, List, Some, length, slice_get, sym, ap, subst, arith}
use Rattle.std.proofs.lemmas.List.Elements.{All-contains}
use Rattle.std.proofs.lemmas.Option.{same_Some, slice_get_within}
use Rattle.currency_base.specs.declared.ids.AttrId.{AttrId}
use Rattle.currency_base.specs.declared.ids.EntId.{EntId}
use Rattle.currency_base.specs.declared.pair.Pair.{Pair}
use Rattle.currency_base.specs.declared.value.Value.{Value}
use Rattle.part_laws.specs.Laws.{PartsNarrow, PairsAreKept, ValuesAreKept}
use Rattle.part_laws.specs.Parts.{IsPartOf, IsPairPart, IsNarrowed, rows_in, entities_in}
use Rattle.part_laws.proofs.Rows.{there}
use Rattle.part_narrow.specs.Laws.{NarrowsExist}
use Rattle.spec_model.specs.Completion.{Rankings, lists_of, HasShape, Before}
use Rattle.spec_model.specs.Consistent.{IsConsistent}
use Rattle.spec_model.specs.Current.{current_value}
use Rattle.spec_model.specs.Spec.{Spec}
use Rattle.spec_model.specs.declared.relation.Relation.{Relation}
use Rattle.many_parts.specs.ManyParts.{Part, HasCurrent, IsAmongConsistent, PairsAreCertain, PairsArePossible, PartsExtend, ValuesAreCertain, ValuesArePossible}
use Rattle.many_parts.proofs.Consistency.{narrowed_to}

-- ---- what completions of both have in common

-- something that a consistent completion of a part and one of the whole that says the same of its rows both have, or neither
abbrev AreAlike : Spec → Part → (Rankings → Type 0) → (Rankings → Type 0) → Type 0
AreAlike s p InPart InWhole = (c narrow : Rankings) → IsConsistent s c → HasShape p.spec.relations narrow
    → IsNarrowed s.relations p.places c narrow → InPart narrow ↔ InWhole c

part_is : (s : Spec) (parts : List Part) (p : Part) → IsAmongConsistent s parts p → IsPartOf s p.scope p.places p.spec
part_is s parts p is = All-contains (λ (q : Part). IsPartOf s q.scope q.places q.spec) parts p is.are.each is.among

-- so each of the part has it exactly where each of the whole has, and some of the part exactly where some of the whole has
certain_alike : PartsNarrow → NarrowsExist → PartsExtend → (s : Spec) (parts : List Part) (p : Part)
    (InPart InWhole : Rankings → Type 0) → IsAmongConsistent s parts p → AreAlike s p InPart InWhole
    → ((c : Rankings) → IsConsistent p.spec c → InPart c) ↔ ((c : Rankings) → IsConsistent s c → InWhole c)
certain_alike narrowing exist extend s parts p InPart InWhole is alike = (
  λ certain c consistent.
      let to = narrowed_to narrowing exist s p c is.whole_is (part_is s parts p is) consistent in
      (alike c to.made.narrow consistent to.made.shape to.made.narrowed).0 (certain to.made.narrow to.consistent),
  λ certain narrow in_part.
      let whole = extend s parts p is narrow in_part in
      (alike whole.0 narrow whole.1 in_part.completion.shape whole.2).1 (certain whole.0 whole.1),
)

possible_alike : PartsNarrow → NarrowsExist → PartsExtend → (s : Spec) (parts : List Part) (p : Part)
    (InPart InWhole : Rankings → Type 0) → IsAmongConsistent s parts p → AreAlike s p InPart InWhole
    → ((c : Rankings) × IsConsistent p.spec c × InPart c) ↔ ((c : Rankings) × IsConsistent s c × InWhole c)
possible_alike narrowing exist extend s parts p InPart InWhole is alike = (
  λ possible.
      let narrow = possible.0 in
      let whole = extend s parts p is narrow possible.1 in
      (whole.0, whole.1, (alike whole.0 narrow whole.1 possible.1.completion.shape whole.2).0 possible.2),
  λ possible.
      let c = possible.0 in
      let to = narrowed_to narrowing exist s p c is.whole_is (part_is s parts p is) possible.1 in (
        to.made.narrow,
        to.consistent,
        (alike c to.made.narrow possible.1 to.made.shape to.made.narrowed).1 possible.2,
      ),
)

-- ---- pairs

abbrev HasPair : ℕ → Pair → Rankings → Type 0
HasPair rel pair c = Before (lists_of c rel pair.attr.0) pair.earlier pair.later

pairs_alike : PairsAreKept → (s : Spec) (parts : List Part) (p : Part) (rel : ℕ) (r : Relation) (new old : Pair)
    → IsAmongConsistent s parts p → slice_get s.relations rel ≡ Some r → old.attr.0 < length r.attrs
    → IsPairPart (rows_in p.places rel) new old → AreAlike s p (HasPair rel new) (HasPair rel old)
pairs_alike kept s parts p rel r new old is at inside pair c narrow consistent shape narrowed =
    subst (λ (a : AttrId). Before (lists_of narrow rel a.0) new.earlier new.later
    ↔ Before (lists_of c rel old.attr.0) old.earlier old.later) (sym pair.attr)
    (kept s p.scope p.places p.spec c narrow is.whole_is (part_is s parts p is) consistent.completion shape narrowed
    rel r at old.attr.0 inside new.earlier new.later old.earlier old.later pair.earlier pair.later)

pub pairs_are_certain : PartsNarrow → NarrowsExist → PartsExtend → PairsAreKept → PairsAreCertain
pairs_are_certain narrowing exist extend kept s parts p is rel r at new old inside pair =
    certain_alike narrowing exist extend s parts p (HasPair rel new) (HasPair rel old) is
    (pairs_alike kept s parts p rel r new old is at inside pair)

pub pairs_are_possible : PartsNarrow → NarrowsExist → PartsExtend → PairsAreKept → PairsArePossible
pairs_are_possible narrowing exist extend kept s parts p is rel r at new old inside pair =
    possible_alike narrowing exist extend s parts p (HasPair rel new) (HasPair rel old) is
    (pairs_alike kept s parts p rel r new old is at inside pair)

-- ---- current values

values_alike : ValuesAreKept → (s : Spec) (parts : List Part) (p : Part) (rel : ℕ) (r : Relation) (attr k : ℕ)
    (ent : EntId) (value : Value) → IsAmongConsistent s parts p → slice_get s.relations rel ≡ Some r
    → attr < length r.attrs → slice_get (entities_in p.places rel) k ≡ Some ent
    → AreAlike s p (λ c. HasCurrent p.spec c rel attr k value) (λ c. HasCurrent s c rel attr ent.0 value)
values_alike kept s parts p rel r attr k ent value is at inside is_ent c narrow consistent shape narrowed = (
  λ has. record {
    relation = r;
    is_relation = at;
    current = sym same
        ∙ (ap (λ (q : Relation). current_value narrow rel q.rows attr k)
        (same_Some new.0 has.relation (sym new.1 ∙ has.is_relation)) ∙ has.current);
  },
  λ has. record {
    relation = new.0;
    is_relation = new.1;
    current = same
        ∙ (ap (λ (q : Relation). current_value c rel q.rows attr ent.0)
        (same_Some r has.relation (sym at ∙ has.is_relation)) ∙ has.current);
  },
)
  where
    of : IsPartOf s p.scope p.places p.spec
    of = part_is s parts p is

    new : (q : Relation) × (slice_get p.spec.relations rel ≡ Some q)
    new = there p.spec.relations rel
        (let below = slice_get_within s.relations rel r at in omega (arith, below, of.per_relation))

    same : current_value narrow rel new.0.rows attr k ≡ current_value c rel r.rows attr ent.0
    same = kept s p.scope p.places p.spec c narrow is.whole_is of shape narrowed rel r new.0 at new.1 attr inside k ent is_ent

pub values_are_certain : PartsNarrow → NarrowsExist → PartsExtend → ValuesAreKept → ValuesAreCertain
values_are_certain narrowing exist extend kept s parts p is rel r at attr inside k ent is_ent value =
    certain_alike narrowing exist extend s parts p (λ c. HasCurrent p.spec c rel attr k value)
    (λ c. HasCurrent s c rel attr ent.0 value) is
    (values_alike kept s parts p rel r attr k ent value is at inside is_ent)

pub values_are_possible : PartsNarrow → NarrowsExist → PartsExtend → ValuesAreKept → ValuesArePossible
values_are_possible narrowing exist extend kept s parts p is rel r at attr inside k ent is_ent value =
    possible_alike narrowing exist extend s parts p (λ c. HasCurrent p.spec c rel attr k value)
    (λ c. HasCurrent s c rel attr ent.0 value) is
    (values_alike kept s parts p rel r attr k ent value is at inside is_ent)
