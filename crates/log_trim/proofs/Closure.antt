-- What is marked in the end is what the goals need.
use Rattle.std.proofs.Common.{◌≡◌, inl, inr, ◌∙◌, ◌<◌, ◌≤◌, ℕ, zero, suc, Bool, true, false, List, [], length, map, replicate, sym, refl, ap, subst, arith, All, Contains}
use Rattle.std.proofs.lemmas.Bool.{cases_eq, cases_lt}
use Rattle.std.proofs.lemmas.List.{get_or_past, length-replicate, length-map}
use Rattle.std.proofs.lemmas.List.Elements.{All-contains}
use Rattle.refutation_log.specs.declared.step.Step.{Step}
use Rattle.log_trim.specs.Trimmed.{Reaches, is_goal, is_hint, hints_at, hints_of}
use Rattle.log_trim.specs.Marked.{is_marked, with_all, with_all_where, swept, gathered, IsOfMarked, IsMarkedWhere}
use Rattle.log_trim.proofs.Marking.{with_all_count, with_all_where_count, marked_new, marked_cases, where_kept, where_new, where_cases, none_marked, contains_none}

-- ---- sweeping marks what is reached

-- each mark stays
pub swept_kept : (lists : ℕ → List ℕ) (n : ℕ) (marks : List Bool) (p : ℕ) → is_marked marks p ≡ true
    → is_marked (swept lists n marks) p ≡ true
swept_kept lists zero marks p marked = marked
swept_kept lists (suc n) marks p marked =
    swept_kept lists n (with_all_where (is_marked marks n) marks (lists n)) p
    (where_kept (is_marked marks n) marks (lists n) p marked)

-- nothing is marked but what a closed set has
pub swept_sound : (lists : ℕ → List ℕ) (R : ℕ → Type 0) → ((place used : ℕ) → R place → Contains (lists place) used → R used)
    → (n : ℕ) (marks : List Bool) → ((p : ℕ) → is_marked marks p ≡ true → R p)
    → (p : ℕ) → is_marked (swept lists n marks) p ≡ true → R p
swept_sound lists R closed zero marks were p marked = were p marked
swept_sound lists R closed (suc n) marks were p marked =
    swept_sound lists R closed n (with_all_where (is_marked marks n) marks (lists n)) (λ q now.
    elim (where_cases (is_marked marks n) marks (lists n) q now) [
      | inl old ↦ were q old
      | inr new ↦ closed n q (were n new.0) new.1
    ])
    p marked

-- all that a place has is marked
abbrev IsClosedAt : (ℕ → List ℕ) → List Bool → ℕ → Type 0
IsClosedAt lists marks place = is_marked marks place ≡ true → (used : ℕ) → Contains (lists place) used
    → is_marked marks used ≡ true

-- one step down closes one place more
closed_more : (lists : ℕ → List ℕ) (n : ℕ) (marks : List Bool) → n < length marks
    → ((place : ℕ) → All (λ used. used < place) (lists place))
    → ((place : ℕ) → suc n ≤ place → IsClosedAt lists marks place)
    → (place : ℕ) → n ≤ place → IsClosedAt lists (with_all_where (is_marked marks n) marks (lists n)) place
closed_more lists n marks within below closed place from marked used is_in =
    let was : is_marked marks place ≡ true =
    elim (where_cases (is_marked marks n) marks (lists n) place marked) [
      | inl old ↦ old
      | inr new ↦ absurd (let under : place < n = All-contains (λ k. k < n) (lists n) place (below n) new.1 in omega arith)
    ] in
    elim (cases_eq place n) [
      | inl e ↦
          let told : is_marked marks n ≡ true = rw e at was in
          let mine : Contains (lists n) used = rw e at is_in in
          let under : used < n = All-contains (λ k. k < n) (lists n) used (below n) mine in
          where_new (is_marked marks n) marks (lists n) used told (omega arith) mine
      | inr ne ↦ where_kept (is_marked marks n) marks (lists n) used (closed place (omega arith) was used is_in)
    ]

pub swept_closed : (lists : ℕ → List ℕ) (n : ℕ) (marks : List Bool) → n ≤ length marks
    → ((place : ℕ) → All (λ used. used < place) (lists place))
    → ((place : ℕ) → n ≤ place → IsClosedAt lists marks place) → (place : ℕ) → IsClosedAt lists (swept lists n marks) place
swept_closed lists zero marks within below closed place = closed place (omega arith)
swept_closed lists (suc n) marks within below closed place =
    let next = with_all_where (is_marked marks n) marks (lists n) in
    let count : length next ≡ length marks = with_all_where_count (is_marked marks n) marks (lists n) in
    swept_closed lists n next (omega arith) below (closed_more lists n marks (omega arith) below closed) place

-- a closed set with each goal has all that the goals reach
pub reached_within : (steps : List Step) (goals : List ℕ) (R : ℕ → Type 0) → ((place : ℕ) → Contains goals place → R place)
    → ((place used : ℕ) → R place → Contains (hints_at steps place) used → R used)
    → (place : ℕ) → Reaches steps goals place → R place
reached_within steps goals R each closed place (is_goal _ is_in) = each _ is_in
reached_within steps goals R each closed place (is_hint before _ reached is_in) =
    closed before _ (reached_within steps goals R each closed before reached) is_in

-- the marks of the goals, swept
abbrev pub reached_marks : List Step → List ℕ → List Bool
reached_marks steps goals = swept (hints_at steps) (length steps) (with_all (replicate (length steps) false) goals)

pub none_behind : (steps : List Step) (place used : ℕ) → length steps ≤ place → Contains (hints_at steps place) used → ⊥
none_behind steps place used past is_in =
    let count : length (map hints_of steps) ≡ length steps = length-map steps hints_of in
    let none : hints_at steps place ≡ [] = get_or_past (map hints_of steps) place [] (omega arith) in
    contains_none used (subst (λ (hints : List ℕ). Contains hints used) none is_in)

pub reached_marked : (steps : List Step) (goals : List ℕ) → All (λ goal. goal < length steps) goals
    → ((place : ℕ) → All (λ hint. hint < place) (hints_at steps place))
    → IsMarkedWhere (reached_marks steps goals) (Reaches steps goals)
reached_marked steps goals inside below place =
    let start = with_all (replicate (length steps) false) goals in
    let count : length start ≡ length steps =
    with_all_count (replicate (length steps) false) goals ∙ length-replicate (length steps) false in
    let sound = swept_sound (hints_at steps) (Reaches steps goals) (λ p used reached is_in. is_hint p used reached is_in)
    (length steps) start (λ p marked.
    elim (marked_cases (replicate (length steps) false) goals p marked) [
      | inl old ↦ absurd (none_marked (length steps) p old)
      | inr is_in ↦ is_goal p is_in
    ]) in
    let closed = swept_closed (hints_at steps) (length steps) start (omega arith) below
    (λ p past marked used is_in. absurd (none_behind steps p used past is_in)) in
    let each : (p : ℕ) → Contains goals p → is_marked (reached_marks steps goals) p ≡ true =
    λ p is_in. swept_kept (hints_at steps) (length steps) start p
    (let within : p < length steps = All-contains (λ goal. goal < length steps) goals p inside is_in in
    marked_new (replicate (length steps) false) goals p (rw length-replicate within) is_in) in (
      sound place,
      reached_within steps goals (λ p. is_marked (reached_marks steps goals) p ≡ true) each
          (λ p used marked is_in. closed p marked used is_in) place,
    )

-- ---- gathering marks what the marked places have

pub gathered_count : (from : List Bool) (lists : ℕ → List ℕ) (n : ℕ) (marks : List Bool)
    → length (gathered from lists n marks) ≡ length marks
gathered_count from lists zero marks = refl
gathered_count from lists (suc n) marks =
    with_all_where_count (is_marked from n) (gathered from lists n marks) (lists n) ∙ gathered_count from lists n marks

gathered_sound : (from : List Bool) (lists : ℕ → List ℕ) (n count p : ℕ)
    → is_marked (gathered from lists n (replicate count false)) p ≡ true
    → IsOfMarked from lists n p
gathered_sound from lists zero count p marked = absurd (none_marked count p marked)
gathered_sound from lists (suc n) count p marked =
    elim (where_cases (is_marked from n) (gathered from lists n (replicate count false)) (lists n) p marked) [
      | inl old ↦
          let before = gathered_sound from lists n count p old in
          let under : before.place < suc n = let h = before.below in omega arith in
          record { place = before.place; below = under; marked = before.marked; is_in = before.is_in }
      | inr new ↦ record { place = n; below = omega arith; marked = new.0; is_in = new.1 }
    ]

gathered_complete : (from : List Bool) (lists : ℕ → List ℕ) (n : ℕ) (marks : List Bool) (p : ℕ) → p < length marks
    → IsOfMarked from lists n p
    → is_marked (gathered from lists n marks) p ≡ true
gathered_complete from lists zero marks p within one = absurd (let h = one.below in omega arith)
gathered_complete from lists (suc n) marks p within one =
    let now = gathered from lists n marks in
    elim (cases_lt one.place n) [
      | inl before ↦
          where_kept (is_marked from n) now (lists n) p
          (gathered_complete from lists n marks p within
          (record { place = one.place; below = before; marked = one.marked; is_in = one.is_in }))
      | inr after ↦
          let last : one.place ≡ n = let h = one.below in omega arith in
          let told : is_marked from n ≡ true = ap (is_marked from) (sym last) ∙ one.marked in
          let mine : Contains (lists n) p = subst (λ (k : ℕ). Contains (lists k) p) last one.is_in in
          where_new (is_marked from n) now (lists n) p told (rw (gathered_count from lists n marks) within) mine
    ]

pub gathered_marked : (from : List Bool) (lists : ℕ → List ℕ) (n count : ℕ) → ((place : ℕ) → All (λ p. p < count) (lists place))
    → IsMarkedWhere (gathered from lists n (replicate count false)) (IsOfMarked from lists n)
gathered_marked from lists n count inside p = (
  gathered_sound from lists n count p,
  λ one.
      let within : p < count = All-contains (λ k. k < count) (lists one.place) p (inside one.place) one.is_in in
      gathered_complete from lists n (replicate count false) p (rw length-replicate within) one,
)
