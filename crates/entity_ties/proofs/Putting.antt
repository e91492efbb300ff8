-- Items that are put into lists, and labels that are cut by relation.
use Rattle.std.proofs.Common.{◌≡◌, ◌≢◌, ◌<◌, ◌≤◌, ◌⊎◌, ◌∙◌, ◌+◌, ◌++◌, ℕ, zero, suc, List, [], ◌∷◌, Contains, Some, length, replicate, slice_get, slice_set, slice_index, slice_range, refl, sym, ap, subst, inl, inr, ⊎_elim, arith, get_or-set_other, get_or-set_same}
use Rattle.std.proofs.lemmas.Bool.{cases_eq, cases_lt}
use Rattle.std.proofs.lemmas.List.{length-set, get_or-replicate, length-replicate, get_or_past, get_or_append_left}
use Rattle.std.proofs.lemmas.List.Elements.{Contains-push, Contains-push_cases, Contains-append_left}
use Rattle.std.proofs.lemmas.Option.{same_Some, get_or_from_slice_get, slice_get_within}
use Rattle.spec_model.specs.declared.relation.Relation.{Relation}
use Rattle.entity_ties.specs.declared.cells.Member.{Member}
use Rattle.entity_ties.specs.Parts.{list_at, Puts, IsPartMember, ArePartsOf, AreCut}
use Rattle.entity_ties.proofs.Items.{at_end, length_push}

pub replicate_push : {A : Type 0} (n : ℕ) (x : A) → replicate n x ++ x ∷ [] ≡ replicate (n + 1) x
replicate_push n x = (let next : n + 1 ≡ suc n = omega arith in go n x ∙ ap (λ m. replicate m x) (sym next))
  where
    go : {A : Type 0} (n : ℕ) (x : A) → replicate n x ++ x ∷ [] ≡ replicate (suc n) x
    go zero x = refl
    go (suc n) x = ap (λ l. x ∷ l) (go n x)

pub nothing_in : {A : Type 0} (count place : ℕ) (x : A) → Contains (list_at (replicate count []) place) x → ⊥
nothing_in {A} count place x c =
    let empty : list_at (replicate {A = List A} count []) place ≡ [] =
    ⊎_elim (λ (low : place < count). get_or-replicate {A = List A} count place [] [] low)
    (λ (high : count ≤ place). get_or_past (replicate {A = List A} count []) place []
    (omega (arith, length-replicate {A = List A} count [], high)))
    (cases_lt place count) in
    let none : Contains [] x = subst (λ (l : List A). Contains l x) empty c in
    omega (arith, none.1)

pub puts : {A : Type 0} (place : ℕ) (item : A) (list : List A) (old new : List (List A)) → place < length old
    → slice_get old place ≡ Some list
    → new ≡ slice_set (slice_set old place []) place (list ++ item ∷ []) → Puts place item old new
puts {A} place item list old new inside at new_is = record {
  many = ap length new_is ∙ (length-set (slice_set old place []) place (list ++ item ∷ []) ∙ length-set old place []);
  kept = λ p x c. kept p x (cases_eq p place) c;
  has = subst (λ (l : List A). Contains l item) (sym here) (Contains-push list item);
  only = λ p x c. only p x (cases_eq p place) c;
}
  where
    was : list_at old place ≡ list
    was = get_or_from_slice_get old place list [] at

    here : list_at new place ≡ list ++ item ∷ []
    here = ap (λ (l : List (List A)). list_at l place) new_is
        ∙ get_or-set_same (slice_set old place []) place (list ++ item ∷ []) [] (omega (arith, inside, length-set old place []))

    other : (p : ℕ) → p ≢ place → list_at new p ≡ list_at old p
    other p apart = ap (λ (l : List (List A)). list_at l p) new_is
        ∙ (get_or-set_other (slice_set old place []) place p (list ++ item ∷ []) [] apart ∙ get_or-set_other old
        place p [] [] apart)

    kept : (p : ℕ) (x : A) → (p ≡ place) ⊎ (p ≡ place → ⊥) → Contains (list_at old p) x → Contains (list_at new p) x
    kept p x (inl e) c =
        subst (λ (l : List A). Contains l x) (sym (ap (list_at new) e ∙ here))
        (Contains-append_left list (item ∷ []) x (subst (λ (l : List A). Contains l x) (ap (list_at old) e ∙ was) c))
    kept p x (inr apart) c = subst (λ (l : List A). Contains l x) (sym (other p apart)) c

    only : (p : ℕ) (x : A) → (p ≡ place) ⊎ (p ≡ place → ⊥) → Contains (list_at new p) x → Contains (list_at old p) x
        ⊎ ((p ≡ place) × (item ≡ x))
    only p x (inl e) c =
        ⊎_elim
        (λ (o : Contains list x). inl (subst (λ (l : List A). Contains l x) (sym (ap (list_at old) e ∙ was)) o))
        (λ (s : item ≡ x). inr (e, s))
        (Contains-push_cases list item x (subst (λ (l : List A). Contains l x) (ap (list_at new) e ∙ here) c))
    only p x (inr apart) c = inl (subst (λ (l : List A). Contains l x) (other p apart) c)

-- ---- parts

-- the entities of the numbers below a bound, by their labels
pub record ArePartsBelow (members : List Member) (labels : List ℕ) (count bound : ℕ) (parts : List (List Member)) : Type 0 where
  pub many : length parts ≡ count
  pub each : (label : ℕ) (m : Member) (is : IsPartMember members labels label m) → is.number < bound
      → Contains (list_at parts label) m
  pub only : (label : ℕ) (m : Member) → Contains (list_at parts label) m → IsPartMember members labels label m

pub parts_none : (members : List Member) (labels : List ℕ) (count : ℕ) (parts : List (List Member)) → parts ≡ replicate count []
    → ArePartsBelow members labels count 0 parts
parts_none members labels count parts is = record {
  many = ap length is ∙ length-replicate {A = List Member} count [];
  each = λ label m of below. absurd (omega arith);
  only = λ label m c. absurd (nothing_in count label m (subst (λ (l : List (List Member)). Contains (list_at l label) m) is c));
}

pub parts_more : (members : List Member) (labels : List ℕ) (count bound label : ℕ) (m : Member) (old new : List (List Member))
    → slice_get members bound ≡ Some m → slice_get labels bound ≡ Some label → ArePartsBelow members labels count bound old
    → Puts label m old new → ArePartsBelow members labels count (bound + 1) new
parts_more members labels count bound label m old new at_m at_l are put = record {
  many = put.many ∙ are.many;
  each = λ l x is below. each l x is below (cases_lt is.number bound);
  only = λ l x c. ⊎_elim (λ o. are.only l x o) (λ (e : (l ≡ label) × (m ≡ x)).
      record { number = bound; is_member = at_m ∙ ap Some e.1; is_label = at_l ∙ ap Some (sym e.0) }) (put.only l x c);
}
  where
    each : (l : ℕ) (x : Member) (is : IsPartMember members labels l x) → is.number < bound + 1 →
        (is.number < bound) ⊎ (bound ≤ is.number)
        → Contains (list_at new l) x
    each l x is below (inl low) = put.kept l x (are.each l x is low)
    each l x is below (inr high) =
        let same : bound ≡ is.number = omega arith in
        let one : m ≡ x = same_Some m x (sym at_m ∙ (ap (slice_get members) same ∙ is.is_member)) in
        let to : label ≡ l = same_Some label l (sym at_l ∙ (ap (slice_get labels) same ∙ is.is_label)) in
        subst (λ (y : Member). Contains (list_at new l) y) one (subst (λ n. Contains (list_at new n) m) to put.has)

pub parts_all : (members : List Member) (labels : List ℕ) (count bound : ℕ) (parts : List (List Member)) → length members ≤ bound
    → ArePartsBelow members labels count bound parts → ArePartsOf members labels count parts
parts_all members labels count bound parts whole are = record {
  many = are.many;
  each = λ label m is. are.each label m is (omega (arith, slice_get_within members is.number m is.is_member));
  only = are.only;
}

-- ---- labels by relation

pub cut_more : (relations : List Relation) (count : ℕ) (firsts labels : List ℕ) (lists : List (List ℕ))
    (r : Relation) (list : List ℕ)
    → slice_get relations count ≡ Some r → list ≡ slice_range labels (slice_index firsts count)
    (slice_index firsts count + length r.entities)
    → AreCut relations count firsts labels lists → AreCut relations (count + 1) firsts labels (lists ++ list ∷ [])
cut_more relations count firsts labels lists r list at is are = record {
  many = length_push lists list ∙ omega (arith, are.many);
  each = λ rel o below at_o. each rel o below at_o (cases_lt rel count);
}
  where
    each : (rel : ℕ) (o : Relation) → rel < count + 1 → slice_get relations rel ≡ Some o → (rel < count) ⊎ (count ≤ rel)
        → list_at (lists ++ list ∷ []) rel ≡ slice_range labels (slice_index firsts rel)
        (slice_index firsts rel + length o.entities)
    each rel o below at_o (inl low) = get_or_append_left lists (list ∷ []) [] rel (omega (arith, are.many))
        ∙ are.each rel o low at_o
    each rel o below at_o (inr high) =
        let same : count ≡ rel = omega arith in
        let one : r ≡ o = same_Some r o (sym at ∙ (ap (slice_get relations) same ∙ at_o)) in
        get_or_from_slice_get (lists ++ list ∷ []) rel list [] (at_end lists list rel (omega (arith, are.many)))
        ∙ (is ∙ (ap (λ n. slice_range labels (slice_index firsts n) (slice_index firsts n + length r.entities)) same
        ∙ ap (λ (q : Relation). slice_range labels (slice_index firsts rel) (slice_index firsts rel + length q.entities)) one))
