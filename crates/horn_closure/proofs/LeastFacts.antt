-- What was derived is the least set.
use Rattle.std.proofs.Common.{◌≡◌, ◌+◌, ◌<◌, ℕ, zero, suc, List, [], Contains, Some, length, take, slice_get, refl, subst, arith}
use Rattle.std.proofs.lemmas.Option.{none-some, slice_get_within}
use Rattle.horn_closure.specs.Least.{Horn, IsLeast, fact, joined, clause, IsAmong, IsDerived, AreLeast}
use Rattle.horn_closure.specs.Steps.{AreDerived, AreOnce, AreGiven, AreLookedAt, IsClosing, IsClosedOver, Concludes, horn}
use Rattle.horn_closure.specs.declared.derived.Derived.{Derived}
use Rattle.horn_closure.specs.declared.derived.Why.{Why}
use Rattle.horn_closure.specs.declared.derived.Why.TheVariants.{Fact, Joined, Clause}
use Rattle.horn_closure.proofs.Derivations.{among_stands, among_longer, get_take, longer_twice}

-- ---- what was derived is of the least set

one_least : (h : Horn) (earlier : List Derived) (slot : ℕ) (why : Why) → IsDerived h earlier (record { slot = slot; why = why })
    → ((i : ℕ) (d : Derived) → slice_get earlier i ≡ Some d → IsLeast h d.slot) → IsLeast h slot
one_least h earlier slot Fact is all = fact slot is
one_least h earlier slot (Joined first second) is all =
    joined is.one.slot is.other.slot slot is.meet (all first is.one is.is_one) (all second is.other is.is_other)
one_least h earlier slot (Clause k) is all =
    clause k is.premises slot is.is_clause is.concludes
    (λ premise c. let st = among_stands earlier premise (is.derived premise c) in subst (IsLeast h) st.1.slot_is
    (all st.0 st.1.one st.1.is_one))

least_below : (h : Horn) (derived : List Derived) → AreDerived h derived → (n place : ℕ) (d : Derived) → place < n
    → slice_get derived place ≡ Some d
    → IsLeast h d.slot
least_below h derived each zero place d less at = absurd (omega arith)
least_below h derived each (suc n) place d less at =
    one_least h (take place derived) d.slot d.why (each place d at)
    (λ i e there. let earlier = get_take place derived i e there in
    least_below h derived each n i e (omega (arith, earlier.0)) earlier.1)

pub among_least : (h : Horn) (derived : List Derived) → AreDerived h derived → (slot : ℕ) → IsAmong derived slot → IsLeast h slot
among_least h derived each slot a =
    let st = among_stands derived slot a in
    subst (IsLeast h) st.1.slot_is (least_below h derived each (st.0 + 1) st.0 st.1.one (omega arith) st.1.is_one)

-- ---- the least set was derived

least_among : (h : Horn) (derived : List Derived) → ((slot : ℕ) → Contains h.facts slot → IsAmong derived slot)
    → IsClosedOver h.sizes h.premises h.conclusions derived derived → (slot : ℕ) → IsLeast h slot → IsAmong derived slot
least_among h derived facts closed slot (fact s c) = facts s c
least_among h derived facts closed slot (joined first second third m a b) =
    closed.joins first second third m (least_among h derived facts closed first a) (least_among h derived facts closed second b)
least_among h derived facts closed slot (clause k premises conclusion is_ps is_slot all) =
    (closed.clauses k).concludes premises conclusion is_ps is_slot (λ s c. least_among h derived facts closed s (all s c))

-- ---- the whole

nothing_meets : (sizes : List ℕ) (premises : List (List ℕ)) (conclusions : List ℕ) (derived : List Derived) →
    ((k : ℕ) → Concludes premises conclusions k [] derived)
    → IsClosedOver sizes premises conclusions [] derived
nothing_meets sizes premises conclusions derived clauses = record {
  joins = λ first second third m a b. absurd (omega (arith, a.is_in.1));
  clauses = clauses;
}

pub all_least : (sizes facts : List ℕ) (premises : List (List ℕ)) (conclusions : List ℕ) (given ready derived : List Derived)
    → AreGiven facts [] given → AreLookedAt premises conclusions (length premises) given ready
    → IsClosing sizes premises conclusions ready derived
    → AreOnce derived → AreLeast (horn sizes facts premises conclusions) derived
all_least sizes facts premises conclusions given ready derived are_given looked closing once = record {
  each = closing.sound facts (looked.sound h refl refl (are_given.sound h (λ slot c. c) (λ place d at. absurd (none-some d at))));
  all = least_among h derived
      (λ slot c. among_longer given derived slot (longer_twice given ready derived looked.longer closing.longer)
      (are_given.all slot c))
      (closing.closed (nothing_meets sizes premises conclusions ready none));
  once = once;
}
  where
    h : Horn
    h = horn sizes facts premises conclusions

    none : (k : ℕ) → Concludes premises conclusions k [] ready
    none k = record {
      concludes = λ ps slot is_ps is_slot all. (looked.found k (slice_get_within premises k ps is_ps)).concludes ps
          slot is_ps is_slot
          (λ premise c. absurd (omega (arith, (all premise c).is_in.1)));
    }
