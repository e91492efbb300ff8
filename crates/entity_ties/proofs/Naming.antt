-- New labels in the order in which the old ones come first.
use Rattle.std.proofs.Common.{◌≡◌, ◌≢◌, ◌<◌, ◌≤◌, ◌⊎◌, ◌∙◌, ◌+◌, ◌++◌, ℕ, List, [], ◌∷◌, Option, Some, None, length, replicate, slice_get, take, refl, sym, ap, subst, inl, inr, ⊎_elim, arith, get_or-set_other, get_or-set_same}
use Rattle.std.proofs.lemmas.Bool.{cases_eq, cases_lt}
use Rattle.std.proofs.lemmas.List.{length-set, take_more, get_or_past, get_or-replicate, length-replicate}
use Rattle.std.proofs.lemmas.Option.{same_Some, none-some, get_or_from_slice_get, slice_get_within}
use Rattle.part_laws.proofs.Rows.{there}
use Rattle.entity_ties.specs.Order.{AreInOrder, IsNamed, WasNamed, GotName, name_at}
use Rattle.entity_ties.proofs.Items.{at_old, at_end, pushed, length_push}

-- a label that some number has
pub record HasName (names : List (Option ℕ)) (new : List ℕ) (number label : ℕ) : Type 0 where
  pub name : ℕ
  pub is_name : name_at names label ≡ Some name
  pub is_new : slice_get new number ≡ Some name

-- the new labels so far: each is the name of its old one; names are given to no label else, each but to one, and count up
pub record AreNamed (old : List ℕ) (names : List (Option ℕ)) (new : List ℕ) (count : ℕ) : Type 0 where
  pub many : length new ≡ length old
  pub few : count ≤ length old
  pub known : (a label : ℕ) → slice_get old a ≡ Some label → HasName names new a label
  pub from : (label name : ℕ) → name_at names label ≡ Some name → (a : ℕ) × (slice_get old a ≡ Some label)
  pub one : (label other name : ℕ) → name_at names label ≡ Some name → name_at names other ≡ Some name → label ≡ other
  pub below : (label name : ℕ) → name_at names label ≡ Some name → name < count
  pub used : (name : ℕ) → name < count → (label : ℕ) × (name_at names label ≡ Some name)
  pub first : (n m b : ℕ) → n < m → slice_get new b ≡ Some m → (a : ℕ) × (a < b) × (slice_get new a ≡ Some n)

pub named_none : (names : List (Option ℕ)) (count : ℕ) → names ≡ replicate count None → AreNamed [] names [] 0
named_none names count is = record {
  many = refl;
  few = omega arith;
  known = λ a label at. absurd (none-some label at);
  from = λ label name at. absurd (nothing label name at);
  one = λ label other name at at'. absurd (nothing label name at);
  below = λ label name at. absurd (nothing label name at);
  used = λ name below. absurd (omega arith);
  first = λ n m b less at. absurd (none-some m at);
}
  where
    none : (label : ℕ) → (label < count) ⊎ (count ≤ label) → name_at (replicate count None) label ≡ None
    none label (inl low) = get_or-replicate count label None None low
    none label (inr high) = get_or_past (replicate count None) label None
        (omega (arith, length-replicate {A = Option ℕ} count None))

    nothing : (label name : ℕ) → name_at names label ≡ Some name → ⊥
    nothing label name at =
        none-some name (sym (ap (λ (l : List (Option ℕ)). name_at l label) is ∙ none label (cases_lt label count)) ∙ at)

-- what a new label at the end says of those before
module _ (old new : List ℕ) (name : ℕ) (many : length new ≡ length old) where
  still_first : ((n m b : ℕ) → n < m → slice_get new b ≡ Some m → (a : ℕ) × (a < b) × (slice_get new a ≡ Some n))
      → ((n : ℕ) → n < name → (a : ℕ) × (slice_get new a ≡ Some n))
      → (n m b : ℕ) → n < m → slice_get (new ++ name ∷ []) b ≡ Some m → (a : ℕ) × (a < b) ×
      (slice_get (new ++ name ∷ []) a ≡ Some n)
  still_first first smaller n m b less at = by (pushed new name b m at)
    where
      kept : (a : ℕ) → slice_get new a ≡ Some n → slice_get (new ++ name ∷ []) a ≡ Some n
      kept a at_a = at_old new (name ∷ []) a (slice_get_within new a n at_a) ∙ at_a

      by : ((b < length new) × (slice_get new b ≡ Some m)) ⊎ ((b ≡ length new) × (name ≡ m))
          → (a : ℕ) × (a < b) × (slice_get (new ++ name ∷ []) a ≡ Some n)
      by (inl h) = (let found = first n m b less h.1 in (found.0, found.1, kept found.0 found.2))
      by (inr h) =
          let found = smaller n (omega (arith, h.1)) in
          (found.0, omega (arith, slice_get_within new found.0 n found.1, h.0), kept found.0 found.1)

-- each name that was given stands among the new labels
stands : (old new : List ℕ) (names : List (Option ℕ)) (count name : ℕ) → AreNamed old names new count → name < count
    → (a : ℕ) × (slice_get new a ≡ Some name)
stands old new names count name are below =
    let label = are.used name below in
    let number = are.from label.0 name label.1 in
    let has = are.known number.0 label.0 number.1 in
    (number.0, has.is_new ∙ ap Some (same_Some has.name name (sym has.is_name ∙ label.1)))

-- one number more, whose label has a name
was_named : (old new : List ℕ) (names now : List (Option ℕ)) (count next label name : ℕ) → AreNamed old names new count
    → WasNamed names now count next label name → AreNamed (old ++ label ∷ []) now (new ++ name ∷ []) next
was_named old new names now count next label name are w = record {
  many = length_push new name ∙ (ap (λ n. n + 1) are.many ∙ sym (length_push old label));
  few = omega (arith, w.as_many, are.few, length_push old label);
  known = λ a l at. known a l (pushed old label a l at);
  from = λ l n at. from l n (are.from l n (was l n at));
  one = λ l o n at at'. are.one l o n (was l n at) (was o n at');
  below = λ l n at. omega (arith, are.below l n (was l n at), w.as_many);
  used = λ n low. (let u = are.used n (omega (arith, w.as_many)) in (
    u.0,
    ap (λ (ns : List (Option ℕ)). name_at ns u.0) w.as_before ∙ u.1,
  ));
  first = still_first old new name are.many are.first (λ n low. stands old new names count n are
      (omega (arith, are.below label name w.had)));
}
  where
    was : (l n : ℕ) → name_at now l ≡ Some n → name_at names l ≡ Some n
    was l n at = sym (ap (λ (ns : List (Option ℕ)). name_at ns l) w.as_before) ∙ at

    from : (l n : ℕ) → (a : ℕ) × (slice_get old a ≡ Some l) → (a : ℕ) × (slice_get (old ++ label ∷ []) a ≡ Some l)
    from l n found = (found.0, at_old old (label ∷ []) found.0 (slice_get_within old found.0 l found.1) ∙ found.1)

    known : (a l : ℕ) → ((a < length old) × (slice_get old a ≡ Some l)) ⊎ ((a ≡ length old) × (label ≡ l))
        → HasName now (new ++ name ∷ []) a l
    known a l (inl h) =
        let has = are.known a l h.1 in
        record {
          name = has.name;
          is_name = ap (λ (ns : List (Option ℕ)). name_at ns l) w.as_before ∙ has.is_name;
          is_new = at_old new (name ∷ []) a (slice_get_within new a has.name has.is_new) ∙ has.is_new;
        }
    known a l (inr h) = record {
      name = name;
      is_name = ap (name_at now) (sym h.1) ∙ (ap (λ (ns : List (Option ℕ)). name_at ns label) w.as_before ∙ w.had);
      is_new = at_end new name a (omega (arith, h.0, are.many));
    }

-- one number more, whose label gets a name
got_name : (old new : List ℕ) (names now : List (Option ℕ)) (count next label name : ℕ) → label < length names
    → AreNamed old names new count
    → GotName names now count next label name → AreNamed (old ++ label ∷ []) now (new ++ name ∷ []) next
got_name old new names now count next label name inside are g = record {
  many = length_push new name ∙ (ap (λ n. n + 1) are.many ∙ sym (length_push old label));
  few = omega (arith, g.one_more, are.few, length_push old label);
  known = λ a l at. known a l (pushed old label a l at);
  from = λ l n at. from l n (cases_eq l label) at;
  one = λ l o n at at'. one l o n (cases_eq l label) (cases_eq o label) at at';
  below = λ l n at. below l n (cases_eq l label) at;
  used = λ n low. used n low (cases_lt n count);
  first = still_first old new name are.many are.first (λ n low. stands old new names count n are (omega (arith, g.is_next)));
}
  where
    here : name_at now label ≡ Some count
    here = ap (λ (ns : List (Option ℕ)). name_at ns label) g.put ∙ get_or-set_same names label (Some count) None inside

    other : (l : ℕ) → l ≢ label → name_at now l ≡ name_at names l
    other l apart = ap (λ (ns : List (Option ℕ)). name_at ns l) g.put ∙ get_or-set_other names label l (Some count) None apart

    differs : (l n : ℕ) → name_at names l ≡ Some n → l ≢ label
    differs l n at e = none-some n (sym g.had_none ∙ (ap (name_at names) (sym e) ∙ at))

    is_count : (l n : ℕ) → l ≡ label → name_at now l ≡ Some n → count ≡ n
    is_count l n e at = same_Some count n (sym here ∙ (ap (name_at now) (sym e) ∙ at))

    known : (a l : ℕ) → ((a < length old) × (slice_get old a ≡ Some l)) ⊎ ((a ≡ length old) × (label ≡ l))
        → HasName now (new ++ name ∷ []) a l
    known a l (inl h) =
        let has = are.known a l h.1 in
        record {
          name = has.name;
          is_name = other l (differs l has.name has.is_name) ∙ has.is_name;
          is_new = at_old new (name ∷ []) a (slice_get_within new a has.name has.is_new) ∙ has.is_new;
        }
    known a l (inr h) = record {
      name = name;
      is_name = ap (name_at now) (sym h.1) ∙ (here ∙ ap Some (sym g.is_next));
      is_new = at_end new name a (omega (arith, h.0, are.many));
    }

    from : (l n : ℕ) → (l ≡ label) ⊎ (l ≡ label → ⊥) → name_at now l ≡ Some n →
        (a : ℕ) × (slice_get (old ++ label ∷ []) a ≡ Some l)
    from l n (inl e) at = (length old, at_end old label (length old) refl ∙ ap Some (sym e))
    from l n (inr apart) at =
        let found = are.from l n (sym (other l apart) ∙ at) in
        (found.0, at_old old (label ∷ []) found.0 (slice_get_within old found.0 l found.1) ∙ found.1)

    below : (l n : ℕ) → (l ≡ label) ⊎ (l ≡ label → ⊥) → name_at now l ≡ Some n → n < next
    below l n (inl e) at = omega (arith, is_count l n e at, g.one_more)
    below l n (inr apart) at = omega (arith, are.below l n (sym (other l apart) ∙ at), g.one_more)

    one : (l o n : ℕ) → (l ≡ label) ⊎ (l ≡ label → ⊥) → (o ≡ label) ⊎ (o ≡ label → ⊥) → name_at now l ≡ Some n
        → name_at now o ≡ Some n → l ≡ o
    one l o n (inl e) (inl f) at at' = e ∙ sym f
    one l o n (inl e) (inr apart) at at' = absurd (omega (arith, is_count l n e at, are.below o n (sym (other o apart) ∙ at')))
    one l o n (inr apart) (inl f) at at' = absurd (omega (arith, is_count o n f at', are.below l n (sym (other l apart) ∙ at)))
    one l o n (inr x) (inr y) at at' = are.one l o n (sym (other l x) ∙ at) (sym (other o y) ∙ at')

    used : (n : ℕ) → n < next → (n < count) ⊎ (count ≤ n) → (l : ℕ) × (name_at now l ≡ Some n)
    used n low (inl is) =
        let u = are.used n is in
        (u.0, other u.0 (differs u.0 n u.1) ∙ u.1)
    used n low (inr high) = (let same : count ≡ n = omega (arith, g.one_more) in (label, here ∙ ap Some same))

-- one number more
pub named_more : (i label name count next : ℕ) (old new : List ℕ) (names now : List (Option ℕ))
    → slice_get old i ≡ Some label → label < length names
    → AreNamed (take i old) names new count → IsNamed names now count next label name → AreNamed (take (i + 1) old)
    now (new ++ name ∷ []) next
named_more i label name count next old new names now at inside are is =
    let more : take (i + 1) old ≡ take i old ++ label ∷ [] =
    take_more old i label (slice_get_within old i label at) ∙ ap (λ z. take i old ++ z ∷ [])
    (get_or_from_slice_get old i label label at) in
    subst (λ l. AreNamed l now (new ++ name ∷ []) next) (sym more)
    (⊎_elim (λ w. was_named (take i old) new names now count next label name are w)
    (λ g. got_name (take i old) new names now count next label name inside are g) is.either)

-- the room for names stays
pub as_much_room : (names now : List (Option ℕ)) (count next label name : ℕ) → IsNamed names now count next label
    name → length now ≡ length names
as_much_room names now count next label name is =
    ⊎_elim (λ (w : WasNamed names now count next label name). ap length w.as_before)
    (λ (g : GotName names now count next label name). ap length g.put ∙ length-set names label (Some count)) is.either

-- all of them
pub named_all : (old new : List ℕ) (names : List (Option ℕ)) (count : ℕ) → AreNamed old names new count → AreInOrder old new count
named_all old new names count are = record {
  many = are.many;
  same = λ a b in_a in_b.
      (let la = there old a in_a in
      let lb = there old b in_b in
      let ha = are.known a la.0 la.1 in
      let hb = are.known b lb.0 lb.1 in
      (λ e. alike a b la.0 lb.0 la.1 lb.1 ha hb e, λ e. equal a b la.0 lb.0 la.1 lb.1 ha hb e));
  below = λ a n at. below a n at;
  used = λ n low. stands old new names count n are low;
  first = are.first;
}
  where
    alike : (a b l m : ℕ) → slice_get old a ≡ Some l → slice_get old b ≡ Some m → HasName names new a l → HasName names new b m
        → slice_get new a ≡ slice_get new b → slice_get old a ≡ slice_get old b
    alike a b l m at_a at_b ha hb e =
        let same : ha.name ≡ hb.name = same_Some ha.name hb.name (sym ha.is_new ∙ (e ∙ hb.is_new)) in
        at_a ∙ (ap Some (are.one l m hb.name (ha.is_name ∙ ap Some same) hb.is_name) ∙ sym at_b)

    equal : (a b l m : ℕ) → slice_get old a ≡ Some l → slice_get old b ≡ Some m → HasName names new a l → HasName names new b m
        → slice_get old a ≡ slice_get old b → slice_get new a ≡ slice_get new b
    equal a b l m at_a at_b ha hb e =
        let same : l ≡ m = same_Some l m (sym at_a ∙ (e ∙ at_b)) in
        let names_same : ha.name ≡ hb.name = same_Some ha.name hb.name
        (sym ha.is_name ∙ (ap (name_at names) same ∙ hb.is_name)) in
        ha.is_new ∙ (ap Some names_same ∙ sym hb.is_new)

    below : (a n : ℕ) → slice_get new a ≡ Some n → n < count
    below a n at =
        let label = there old a (omega (arith, slice_get_within new a n at, are.many)) in
        let has = are.known a label.0 label.1 in
        let same : has.name ≡ n = same_Some has.name n (sym has.is_new ∙ at) in
        omega (arith, are.below label.0 has.name has.is_name)
