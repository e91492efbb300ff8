-- What is built of the lists so far, with one list more.
use Rattle.std.proofs.Common.{◌≡◌, ◌≢◌, ◌⊎◌, ◌+◌, ◌<◌, ◌≤◌, ◌==◌, ℕ, suc, Bool, true, false, List, [], ◌∷◌, ◌++◌, All, Some, nat_lt, length, get_or, set, slice_get, refl, sym, ap, ◌∙◌, subst, inl, inr, ⊎_elim, arith}
use Rattle.std.specs.List.{AllByRecursion}
use Rattle.std.specs.List.Sorted.{IsStrictlySortedBy}
use Rattle.std.specs.Cmp.Lexicographic.{slice_cmp}
use Rattle.std.specs.Ordering.{nat_cmp}
use Rattle.std.specs.declared.cmp.Ordering.{Ordering}
use Rattle.std.specs.declared.cmp.Ordering.TheVariants.{Less, Equal}
use Rattle.std.proofs.lemmas.Bool.{cases_lt}
use Rattle.std.proofs.lemmas.Bool.Decides.{eqb_tells, leb_tells}
use Rattle.std.proofs.lemmas.List.{get_or-set_same, get_or-set_other}
use Rattle.std.proofs.lemmas.List.Elements.{All-head, All-tail, All-push, All-weaker, Contains-push, Contains-append_left}
use Rattle.std.proofs.lemmas.Option.{slice_get_within, same_Some}
use Rattle.currency_base.specs.declared.ids.AttrId.{AttrId}
use Rattle.currency_base.specs.declared.ids.RelId.{RelId}
use Rattle.currency_base.specs.declared.ids.RowId.{RowId}
use Rattle.order_literals.specs.Numbers.{Numbers}
use Rattle.order_literals.specs.Statements.{statements_of}
use Rattle.spec_model.specs.Completion.{Rankings, HasShape, lists_of, ranking_of, with_ranking}
use Rattle.spec_model.specs.declared.relation.Relation.{Relation}
use Rattle.completion_build.specs.declared.built.Cycle.{Cycle}
use Rattle.completion_build.specs.declared.judging.Judged.{Judged}
use Rattle.completion_build.specs.declared.judging.Judged.TheVariants.{Ordered, Round}
use Rattle.completion_build.specs.Drafts.{rankings_with, cycles_with}
use Rattle.completion_build.specs.Judged.{IsOrdered, IsRound, IsJudged}
use Rattle.completion_build.specs.Places.{Precedes, contest_of, AreBuilt}
use Rattle.completion_build.specs.Places.Precedes.{by_rel, by_attr, by_ent}
use Rattle.completion_build.specs.Ranked.{IsCycle, IsOfOne, IsPut, cycle_cmp}
use Rattle.completion_build.proofs.Leading.{entity_is}

-- ---- places

-- one place more comes before the next one
pub precedes_more : (to_rel to_attr to_ent rel attr ent : ℕ) → Precedes to_rel to_attr (to_ent + 1) rel attr ent
    → Precedes to_rel to_attr to_ent rel attr ent ⊎ ((rel ≡ to_rel) × (attr ≡ to_attr) × (ent ≡ to_ent))
precedes_more to_rel to_attr to_ent rel attr ent (by_rel h) = inl (by_rel h)
precedes_more to_rel to_attr to_ent rel attr ent (by_attr e h) = inl (by_attr e h)
precedes_more to_rel to_attr to_ent rel attr ent (by_ent e f h) =
    ⊎_elim (λ (g : ent < to_ent). inl (by_ent e f g)) (λ (g : to_ent ≤ ent). inr (e, f, omega arith)) (cases_lt ent to_ent)

precedes_still : (to_rel to_attr to_ent : ℕ) {rel attr ent : ℕ} → Precedes to_rel to_attr to_ent rel attr ent
    → Precedes to_rel to_attr (to_ent + 1) rel attr ent
precedes_still to_rel to_attr to_ent (by_rel h) = by_rel h
precedes_still to_rel to_attr to_ent (by_attr e h) = by_attr e h
precedes_still to_rel to_attr to_ent (by_ent e f h) = by_ent e f (omega arith)

-- ---- the order of cycles

nat_less : (m n : ℕ) → m < n → nat_cmp m n ≡ Less
nat_less m n below = by (leb_tells (suc m) n)
  where
    by : ((nat_lt m n ≡ true) × (suc m ≤ n)) ⊎ ((nat_lt m n ≡ false) × (n < suc m)) → nat_cmp m n ≡ Less
    by (inl h) = rw h.0 refl
    by (inr h) = absurd (omega arith)

nat_same : (n : ℕ) → nat_cmp n n ≡ Equal
nat_same n = by (leb_tells (suc n) n) (eqb_tells n n)
  where
    by : ((nat_lt n n ≡ true) × (suc n ≤ n)) ⊎ ((nat_lt n n ≡ false) × (n < suc n))
        → (((n == n) ≡ true) × (n ≡ n)) ⊎ (((n == n) ≡ false) × (n ≢ n)) → nat_cmp n n ≡ Equal
    by (inl h) g = absurd (omega arith)
    by (inr h) (inl g) = rw (h.0, g.0) refl
    by (inr h) (inr g) = absurd (g.1 refl)

-- a place that comes before another is less
place_less : (to_rel to_attr to_ent : ℕ) {rel attr ent : ℕ} → Precedes to_rel to_attr to_ent rel attr ent
    → slice_cmp nat_cmp (rel ∷ attr ∷ ent ∷ []) (to_rel ∷ to_attr ∷ to_ent ∷ []) ≡ Less
place_less to_rel to_attr to_ent (by_rel {rel = rel} h) = rw (nat_less rel to_rel h) refl
place_less to_rel to_attr to_ent (by_attr {rel = rel} {attr = attr} e h) = rw (e, nat_same to_rel, nat_less attr to_attr h) refl
place_less to_rel to_attr to_ent (by_ent {rel = rel} {attr = attr} {ent = ent} e f h) =
    rw (e, f, nat_same to_rel, nat_same to_attr, nat_less ent to_ent h) refl

push_by_recursion : {K : Type 0} (P : K → Type 0) (xs : List K) (y : K) → AllByRecursion P xs → P y
    → AllByRecursion P (xs ++ y ∷ [])
push_by_recursion P [] y all here = (here, tt)
push_by_recursion P (x ∷ xs) y all here = (all.0, push_by_recursion P xs y all.1 here)

-- an item that is behind all others
sorted_push : {K : Type 0} (cmp : K → K → Ordering) (xs : List K) (y : K) → IsStrictlySortedBy cmp xs
    → All (λ x. cmp x y ≡ Less) xs
    → IsStrictlySortedBy cmp (xs ++ y ∷ [])
unfolding IsStrictlySortedBy
sorted_push cmp [] y sorted less = (tt, tt)
sorted_push cmp (x ∷ xs) y sorted less = (
  push_by_recursion (λ z. cmp x z ≡ Less) xs y sorted.0 (All-head (λ z. cmp z y ≡ Less) x xs less),
  sorted_push cmp xs y sorted.1 (All-tail (λ z. cmp z y ≡ Less) x xs less),
)

-- ---- one list that is put

-- the place of a list
pub record IsPlace (c : Rankings) (rel attr ent : ℕ) : Type 0 where
  pub in_all : rel < length c
  pub in_relation : attr < length (get_or c rel [])
  pub in_attribute : ent < length (lists_of c rel attr)

pub is_place : (relations : List Relation) (c : Rankings) (rel attr ent : ℕ) (r : Relation) → HasShape relations c
    → slice_get relations rel ≡ Some r
    → attr < length r.attrs → ent < length r.entities → IsPlace c rel attr ent
is_place relations c rel attr ent r shape at attr_within ent_within = record {
  in_all = omega (arith, shape.per_relation, slice_get_within relations rel r at);
  in_relation = omega (arith, shape.per_attr rel r at);
  in_attribute = omega (arith, shape.per_entity rel r at attr attr_within);
}

-- it is read where it was put
pub read_put : (c : Rankings) (rel attr ent : ℕ) (list : List RowId) → IsPlace c rel attr ent
    → ranking_of (with_ranking c rel attr ent list) rel attr ent ≡ list
read_put c rel attr ent list is =
    let lists = set (lists_of c rel attr) ent list in
    let attrs = set (get_or c rel []) attr lists in
    ap (λ (x : List (List (List RowId))). get_or (get_or x attr []) ent []) (get_or-set_same c rel attrs [] is.in_all)
    ∙ ap (λ (x : List (List RowId)). get_or x ent []) (get_or-set_same (get_or c rel []) attr lists [] is.in_relation)
    ∙ get_or-set_same (lists_of c rel attr) ent list [] is.in_attribute

-- and the lists at the places before it stay
read_before : (c : Rankings) (to_rel to_attr to_ent : ℕ) (list : List RowId) → IsPlace c to_rel to_attr to_ent
    → {rel attr ent : ℕ} → Precedes to_rel to_attr to_ent rel attr ent
    → ranking_of (with_ranking c to_rel to_attr to_ent list) rel attr ent ≡ ranking_of c rel attr ent
read_before c to_rel to_attr to_ent list is (by_rel {rel = rel} {attr = attr} {ent = ent} h) =
    let lists = set (lists_of c to_rel to_attr) to_ent list in
    let attrs = set (get_or c to_rel []) to_attr lists in
    ap (λ (x : List (List (List RowId))). get_or (get_or x attr []) ent [])
    (get_or-set_other c to_rel rel attrs [] (λ (e : rel ≡ to_rel). omega arith))
read_before c to_rel to_attr to_ent list is (by_attr {rel = rel} {attr = attr} {ent = ent} e h) =
    let lists = set (lists_of c to_rel to_attr) to_ent list in
    let attrs = set (get_or c to_rel []) to_attr lists in
    rw e
    (ap (λ (x : List (List (List RowId))). get_or (get_or x attr []) ent []) (get_or-set_same c to_rel attrs [] is.in_all)
    ∙ ap (λ (x : List (List RowId)). get_or x ent []) (get_or-set_other (get_or c to_rel []) to_attr attr lists []
    (λ (f : attr ≡ to_attr). omega arith)))
read_before c to_rel to_attr to_ent list is (by_ent {rel = rel} {attr = attr} {ent = ent} e f h) =
    let lists = set (lists_of c to_rel to_attr) to_ent list in
    let attrs = set (get_or c to_rel []) to_attr lists in
    rw (e, f)
    (ap (λ (x : List (List (List RowId))). get_or (get_or x to_attr []) ent []) (get_or-set_same c to_rel attrs [] is.in_all)
    ∙ ap (λ (x : List (List RowId)). get_or x ent []) (get_or-set_same (get_or c to_rel []) to_attr lists [] is.in_relation)
    ∙ get_or-set_other (lists_of c to_rel to_attr) to_ent ent list [] (λ (g : ent ≡ to_ent). omega arith))

-- what holds at a place holds where its numbers and its relation are the same
at_place : (relations : List Relation) (P : RelId → AttrId → ℕ → Relation → Type 0) (rel rel' : RelId)
    (attr attr' : AttrId) (ent ent' : ℕ) (r r' : Relation)
    → slice_get relations rel.0 ≡ Some r → slice_get relations rel'.0 ≡ Some r' → (rel'.0 ≡ rel.0) ×
    (attr'.0 ≡ attr.0) × (ent' ≡ ent)
    → P rel attr ent r → P rel' attr' ent' r'
at_place relations P rel rel' attr attr' ent ent' r r' at at' same holds =
    let rel_is : rel' ≡ rel = ap (λ (n : ℕ). let x : RelId = record { 0 = n } in x) same.0 in
    let attr_is : attr' ≡ attr = ap (λ (n : ℕ). let x : AttrId = record { 0 = n } in x) same.1 in
    let r_is : r' ≡ r = same_Some r' r (sym at' ∙ ap (slice_get relations) same.0 ∙ at) in
    rw (rel_is, attr_is, same.2, r_is) holds

module _ (relations : List Relation) (n : Numbers) (truths : List Bool) (rel : RelId) (attr : AttrId) (ent : ℕ) (r : Relation)
    (at : slice_get relations rel.0 ≡ Some r) (attr_within : attr.0 < length r.attrs) (ent_within : ent < length r.entities)
  where
    -- a cycle of this list
    pub round_is_cycle : (cycle : Cycle) → IsRound (contest_of n truths rel attr r ent) ent cycle → IsCycle relations
        (statements_of n) truths cycle
    round_is_cycle cycle is =
        let same : (cycle.rel ≡ rel) × (cycle.attr ≡ attr) × (cycle.ent.0 ≡ ent) = (is.rel_is, is.attr_is, is.ent_is) in
        let put : (t u : RowId) → IsPut (statements_of n) truths rel attr r ent t u → IsPut (statements_of n) truths
        cycle.rel cycle.attr r cycle.ent.0 t u =
        λ t u h. rw (same.0, same.1, same.2) h in
        let first_of = entity_is r.rows ent cycle.first is.has_first in
        let second_of = entity_is r.rows ent cycle.second is.has_second in
        let third_of = entity_is r.rows ent cycle.third is.has_third in
        record {
          relation = r;
          is_relation = rw same.0 at;
          attr_within = rw same.1 attr_within;
          ent_within = rw same.2 ent_within;
          first_second = put cycle.first cycle.second
              (record { first_of = first_of; second_of = second_of; put = is.first_second });
          second_third = put cycle.second cycle.third
              (record { first_of = second_of; second_of = third_of; put = is.second_third });
          third_first = put cycle.third cycle.first (record { first_of = third_of; second_of = first_of; put = is.third_first });
        }

module _ (relations : List Relation) (n : Numbers) (truths : List Bool) (rel : RelId) (attr : AttrId) (ent : ℕ) (r : Relation)
    (at : slice_get relations rel.0 ≡ Some r) (attr_within : attr.0 < length r.attrs) (ent_within : ent < length r.entities)
    (c : Rankings) (cycles : List Cycle) (built : AreBuilt relations n truths rel.0 attr.0 ent c cycles) where
  -- one more list that has an order
  list_more : (list : List RowId) → IsOrdered (contest_of n truths rel attr r ent) list → HasShape relations
      (with_ranking c rel.0 attr.0 ent list)
      → AreBuilt relations n truths rel.0 attr.0 (ent + 1) (with_ranking c rel.0 attr.0 ent list) cycles
  list_more list ordered shape =
      let place = is_place relations c rel.0 attr.0 ent r built.shape at attr_within ent_within in
      let next = with_ranking c rel.0 attr.0 ent list in
      let here : IsOrdered (contest_of n truths rel attr r ent) (ranking_of next rel.0 attr.0 ent) =
      rw (read_put c rel.0 attr.0 ent list place) ordered in
      record {
        shape = shape;
        lists = λ rel' attr' ent' r' at' attr_below ent_below before.
            ⊎_elim
            (λ (h : Precedes rel.0 attr.0 ent rel'.0 attr'.0 ent').
            subst (λ (l : List RowId). IsOrdered (contest_of n truths rel' attr' r' ent') l ⊎ IsOfOne cycles rel'.0 attr'.0 ent')
            (sym (read_before c rel.0 attr.0 ent list place h)) (built.lists rel' attr' ent' r' at' attr_below ent_below h))
            (λ (h : (rel'.0 ≡ rel.0) × (attr'.0 ≡ attr.0) × (ent' ≡ ent)).
            inl (at_place relations (λ (q : RelId) (a : AttrId) (e : ℕ) (s : Relation). IsOrdered
            (contest_of n truths q a s e) (ranking_of next q.0 a.0 e))
            rel rel' attr attr' ent ent' r r' at at' h here))
            (precedes_more rel.0 attr.0 ent rel'.0 attr'.0 ent' before);
        each = built.each;
        before = All-weaker (λ (x : Cycle). Precedes rel.0 attr.0 ent x.rel.0 x.attr.0 x.ent.0)
            (λ (x : Cycle). Precedes rel.0 attr.0 (ent + 1) x.rel.0 x.attr.0 x.ent.0)
            (λ x h. precedes_still rel.0 attr.0 ent h) cycles built.before;
        ascend = built.ascend;
      }

  -- one more list that has a cycle
  cycle_more : (cycle : Cycle) → IsRound (contest_of n truths rel attr r ent) ent cycle
      → AreBuilt relations n truths rel.0 attr.0 (ent + 1) c (cycles ++ cycle ∷ [])
  cycle_more cycle is =
      let rel_is : cycle.rel.0 ≡ rel.0 = ap (λ (x : RelId). x.0) is.rel_is in
      let attr_is : cycle.attr.0 ≡ attr.0 = ap (λ (x : AttrId). x.0) is.attr_is in
      let here : IsOfOne (cycles ++ cycle ∷ []) rel.0 attr.0 ent =
      record { cycle = cycle; is_in = Contains-push cycles cycle; rel_is = rel_is; attr_is = attr_is; ent_is = is.ent_is } in
      let less : (x : Cycle) → Precedes rel.0 attr.0 ent x.rel.0 x.attr.0 x.ent.0 → cycle_cmp x cycle ≡ Less = λ x h.
      rw (rel_is, attr_is, is.ent_is) (place_less rel.0 attr.0 ent h) in
      let still : (x : Cycle) → Precedes rel.0 attr.0 ent x.rel.0 x.attr.0 x.ent.0 → Precedes rel.0 attr.0 (ent + 1)
      x.rel.0 x.attr.0 x.ent.0 =
      λ x h. precedes_still rel.0 attr.0 ent h in
      let last : Precedes rel.0 attr.0 (ent + 1) cycle.rel.0 cycle.attr.0 cycle.ent.0 = by_ent rel_is attr_is
      (omega (arith, is.ent_is)) in
      record {
        shape = built.shape;
        lists = λ rel' attr' ent' r' at' attr_below ent_below before.
            ⊎_elim
            (λ (h : Precedes rel.0 attr.0 ent rel'.0 attr'.0 ent').
            ⊎_elim
            (λ (g : IsOrdered (contest_of n truths rel' attr' r' ent') (ranking_of c rel'.0 attr'.0 ent')). inl g)
            (λ (g : IsOfOne cycles rel'.0 attr'.0 ent').
            inr (record {
              cycle = g.cycle;
              is_in = Contains-append_left cycles (cycle ∷ []) g.cycle g.is_in;
              rel_is =
                  g.rel_is;
              attr_is = g.attr_is;
              ent_is = g.ent_is;
            }))
            (built.lists rel' attr' ent' r' at' attr_below ent_below h))
            (λ (h : (rel'.0 ≡ rel.0) × (attr'.0 ≡ attr.0) × (ent' ≡ ent)). inr (rw (h.0, h.1, h.2) here))
            (precedes_more rel.0 attr.0 ent rel'.0 attr'.0 ent' before);
        each = All-push (IsCycle relations (statements_of n) truths) cycles cycle built.each
            (round_is_cycle relations n truths rel attr ent r at attr_within ent_within cycle is);
        before = All-push (λ (x : Cycle). Precedes rel.0 attr.0 (ent + 1) x.rel.0 x.attr.0 x.ent.0) cycles cycle
            (All-weaker (λ (x : Cycle). Precedes rel.0 attr.0 ent x.rel.0 x.attr.0 x.ent.0)
            (λ (x : Cycle). Precedes rel.0 attr.0 (ent + 1) x.rel.0 x.attr.0 x.ent.0) still cycles built.before) last;
        ascend = sorted_push cycle_cmp cycles cycle built.ascend
            (All-weaker (λ (x : Cycle). Precedes rel.0 attr.0 ent x.rel.0 x.attr.0 x.ent.0)
            (λ (x : Cycle). cycle_cmp x cycle ≡ Less) less cycles built.before);
      }

  -- one more list, by what is found of it
  pub judged_more : ((list : List RowId) → HasShape relations (with_ranking c rel.0 attr.0 ent list)) → (judged : Judged)
      → IsJudged (contest_of n truths rel attr r ent) ent judged
      → AreBuilt relations n truths rel.0 attr.0 (ent + 1) (rankings_with c rel.0 attr.0 ent judged) (cycles_with cycles judged)
  judged_more shape (Ordered list) is = list_more list is (shape list)
  judged_more shape (Round cycle) is = cycle_more cycle is
