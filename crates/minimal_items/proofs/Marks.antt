-- Items that are marked.
use Rattle.std.proofs.Common.{◌≡◌, ◌∙◌, ◌+◌, ◌<◌, ℕ, zero, suc, Bool, true, false, not, if◌then◌else◌, List, [], ◌∷◌, ◌++◌, Some, get_or, length, take, slice_get, slice_set, refl, sym, ap, ap₂, subst, ⊎_elim, arith}
use Rattle.std.proofs.lemmas.Bool.{and_from, and_parts, cases_eq, false_from_ne_true, false≢true, not-true, or_cases, or_left, or_right, true≢false}
use Rattle.std.proofs.lemmas.List.{take_all}
use Rattle.std.proofs.lemmas.Option.{none-some, same_Some, slice_get-get_or, slice_get_within}
use Rattle.currency_base.specs.Lists.{OnlyOnce}
use Rattle.kept_items.specs.Marked.{is_marked, KeepsMarked}
use Rattle.spec_items.specs.declared.item.Item.{Item}
use Rattle.minimal_items.specs.Among.{among, among_but, marked_items, same_item}
use Rattle.minimal_items.proofs.Same.{same_of, same_itself}

-- an item that is put before others where a test says so
abbrev put_if : {A : Type 0} → Bool → A → List A → List A
put_if test x xs = if test then x ∷ xs else xs

-- ---- marks that are set

pub get_other : {A : Type 0} (xs : List A) (k p : ℕ) (x : A) → (p ≡ k → ⊥) → slice_get (slice_set xs k x) p ≡ slice_get xs p
get_other [] k p x apart = refl
get_other (y ∷ xs) zero zero x apart = absurd (apart refl)
get_other (y ∷ xs) zero (suc p) x apart = refl
get_other (y ∷ xs) (suc k) zero x apart = refl
get_other (y ∷ xs) (suc k) (suc p) x apart = get_other xs k p x (λ e. apart (ap suc e))

pub get_same : {A : Type 0} (xs : List A) (k : ℕ) (x y : A) → slice_get xs k ≡ Some y → slice_get (slice_set xs k x) k ≡ Some x
get_same [] k x y at = absurd (none-some y at)
get_same (z ∷ xs) zero x y at = refl
get_same (z ∷ xs) (suc k) x y at = get_same xs k x y at

pub set_back : {A : Type 0} (xs : List A) (k : ℕ) (x y : A) → slice_get xs k ≡ Some y → slice_set (slice_set xs k x) k y ≡ xs
set_back [] k x y at = absurd (none-some y at)
set_back {A} (z ∷ xs) zero x y at = ap (λ (w : A). w ∷ xs) (sym (same_Some z y at))
set_back {A} (z ∷ xs) (suc k) x y at = ap (λ (l : List A). z ∷ l) (set_back xs k x y at)

-- ---- one more place

put_both : {A : Type 0} (test : Bool) (x : A) (new xs ys : List A) → new ≡ xs ++ ys → put_if test x new ≡ put_if test x xs ++ ys
put_both {A} true x new xs ys e = ap (λ (l : List A). x ∷ l) e
put_both false x new xs ys e = e

marked_suc : (items : List Item) (marks : List Bool) (k : ℕ) (i : Item) (m : Bool) → slice_get items k ≡ Some i
    → slice_get marks k ≡ Some m
    → marked_items (take (suc k) items) marks ≡ marked_items (take k items) marks ++ marked_items (i ∷ []) (m ∷ [])
marked_suc [] marks k i m at mark = absurd (none-some i at)
marked_suc (j ∷ items) [] k i m at mark = absurd (none-some m mark)
marked_suc (j ∷ items) (n ∷ marks) zero i m at mark =
    ap₂ (λ (x : Item) (t : Bool). put_if t x []) (same_Some j i at) (same_Some n m mark)
marked_suc (j ∷ items) (n ∷ marks) (suc k) i m at mark =
    put_both n j (marked_items (take (suc k) items) marks) (marked_items (take k items) marks) (marked_items (i ∷ []) (m ∷ []))
    (marked_suc items marks k i m at mark)

pub marked_next : (items : List Item) (marks : List Bool) (k : ℕ) (i : Item) (m : Bool) → slice_get items k ≡ Some i
    → slice_get marks k ≡ Some m
    → marked_items (take (k + 1) items) marks ≡ marked_items (take k items) marks ++ marked_items (i ∷ []) (m ∷ [])
marked_next items marks k i m at mark =
    let next : k + 1 ≡ suc k = omega arith in
    ap (λ n. marked_items (take n items) marks) next ∙ marked_suc items marks k i m at mark

pub marked_more : (items : List Item) (marks : List Bool) (k : ℕ) (d : Item) (e : Bool) (list new : List Item) → k < length items
    → length marks ≡ length items → list ≡ marked_items (take k items) marks
    → new ≡ list ++ marked_items (get_or items k d ∷ []) (get_or marks k e ∷ []) → new ≡ marked_items (take (k + 1) items) marks
marked_more items marks k d e list new below many so_far put =
    let last = marked_items (get_or items k d ∷ []) (get_or marks k e ∷ []) in
    put
    ∙ ap (λ (l : List Item). l ++ last) so_far
    ∙ sym
    (marked_next items marks k (get_or items k d) (get_or marks k e) (slice_get-get_or items k d below)
    (slice_get-get_or marks k e (omega (arith, below, many))))

-- marks from a place on say nothing of what is before it
pub marked_before : (items : List Item) (marks : List Bool) (k : ℕ) (m : Bool)
    → marked_items (take k items) (slice_set marks k m) ≡ marked_items (take k items) marks
marked_before items marks zero m = refl
marked_before [] marks (suc k) m = refl
marked_before (i ∷ items) [] (suc k) m = refl
marked_before (i ∷ items) (n ∷ marks) (suc k) m = ap (put_if n i) (marked_before items marks k m)

pub marked_whole : (items : List Item) (marks : List Bool)
    → marked_items (take (length items) items) marks ≡ marked_items items marks
marked_whole items marks = ap (λ (l : List Item). marked_items l marks) (take_all (length items) items (omega arith))

-- ---- what is among the marked ones

pub marked_at : (items : List Item) (marks : List Bool) (i : Item) → among (marked_items items marks) i ≡ true
    → (k : ℕ) × (slice_get items k ≡ Some i) × (slice_get marks k ≡ Some true)
marked_at [] marks i e = absurd (false≢true e)
marked_at (j ∷ items) [] i e = absurd (false≢true e)
marked_at (j ∷ items) (true ∷ marks) i e = ⊎_elim
    (λ (here : same_item i j ≡ true). (0, ap Some (sym (same_of i j here)), refl))
    (λ (later : among (marked_items items marks) i ≡ true).
    let more = marked_at items marks i later in (suc more.0, more.1, more.2))
    (or_cases (same_item i j) (among (marked_items items marks) i) e)
marked_at (j ∷ items) (false ∷ marks) i e = let more = marked_at items marks i e in (suc more.0, more.1, more.2)

any_put : (i j : Item) (test : Bool) (items : List Item) → test ≡ true → j ≡ i → among (put_if test j items) i ≡ true
any_put i j true items is same =
    or_left (same_item i j) (among items i) (subst (λ (x : Item). same_item i x ≡ true) (sym same) (same_itself i))
any_put i j false items is same = absurd (false≢true is)

any_later : (i j : Item) (test : Bool) (items : List Item) → among items i ≡ true → among (put_if test j items) i ≡ true
any_later i j true items e = or_right (same_item i j) (among items i) e
any_later i j false items e = e

pub among_marked : (items : List Item) (marks : List Bool) (k : ℕ) (i : Item) → slice_get items k ≡ Some i
    → slice_get marks k ≡ Some true → among (marked_items items marks) i ≡ true
among_marked [] marks k i at mark = absurd (none-some i at)
among_marked (j ∷ items) [] k i at mark = absurd (none-some true mark)
among_marked (j ∷ items) (m ∷ marks) zero i at mark =
    any_put i j m (marked_items items marks) (same_Some m true mark) (same_Some j i at)
among_marked (j ∷ items) (m ∷ marks) (suc k) i at mark =
    any_later i j m (marked_items items marks) (among_marked items marks k i at mark)

-- ---- the marked ones are those that are kept, where no item stands twice

kept_as : (items : List Item) (marks : List Bool) → OnlyOnce items → (place : ℕ) (i : Item) → slice_get items place ≡ Some i
    → (mark : Bool) → slice_get marks place ≡ Some mark → among (marked_items items marks) i ≡ mark
kept_as items marks once place i at true mark = among_marked items marks place i at mark
kept_as items marks once place i at false mark =
    false_from_ne_true (among (marked_items items marks) i)
    (λ (e : among (marked_items items marks) i ≡ true).
    let of = marked_at items marks i e in
    let same : place ≡ of.0 = once place of.0 i at of.1 in
    false≢true (same_Some false true (sym mark ∙ ap (slice_get marks) same ∙ of.2)))

pub keeps_marked : (items : List Item) (marks : List Bool) → length marks ≡ length items → OnlyOnce items
    → KeepsMarked items marks (among (marked_items items marks))
keeps_marked items marks many once place i at =
    let below = slice_get_within items place i at in
    kept_as items marks once place i at (is_marked marks place) (slice_get-get_or marks place false (omega (arith, below, many)))

-- ---- a mark that is taken away

module _ (items : List Item) (marks : List Bool) (k : ℕ) (i : Item) where
  -- the marked items but that one are still marked
  pub others_stay : slice_get items k ≡ Some i → (j : Item) → among_but i (marked_items items marks) j ≡ true
      → among (marked_items items (slice_set marks k false)) j ≡ true
  others_stay at j e =
      let parts = and_parts (among (marked_items items marks) j) (not (same_item i j)) e in
      let of = marked_at items marks j parts.0 in
      ⊎_elim
      (λ (here : of.0 ≡ k).
      let same : i ≡ j = same_Some i j (sym at ∙ ap (slice_get items) (sym here) ∙ of.1) in
      let is : same_item i j ≡ true = subst (λ (x : Item). same_item i x ≡ true) same (same_itself i) in
      absurd (true≢false (sym is ∙ not-true (same_item i j) parts.1)))
      (λ (apart : of.0 ≡ k → ⊥).
      among_marked items (slice_set marks k false) of.0 j of.1 (get_other marks k of.0 false apart ∙ of.2))
      (cases_eq of.0 k)

  -- no other is
  pub no_more : slice_get marks k ≡ Some true → (j : Item) → among (marked_items items (slice_set marks k false)) j ≡ true
      → among (marked_items items marks) j ≡ true
  no_more mark j e =
      let of = marked_at items (slice_set marks k false) j e in
      ⊎_elim
      (λ (here : of.0 ≡ k).
      absurd
      (false≢true
      (same_Some false true
      (sym (get_same marks k false true mark) ∙ ap (slice_get (slice_set marks k false)) (sym here) ∙ of.2))))
      (λ (apart : of.0 ≡ k → ⊥).
      among_marked items marks of.0 j of.1 (sym (get_other marks k of.0 false apart) ∙ of.2))
      (cases_eq of.0 k)

  -- and no other but any one is
  pub no_more_but : slice_get marks k ≡ Some true → (it j : Item)
      → among_but it (marked_items items (slice_set marks k false)) j ≡ true → among_but it (marked_items items marks) j ≡ true
  no_more_but mark it j e =
      let parts = and_parts (among (marked_items items (slice_set marks k false)) j) (not (same_item it j)) e in
      and_from (among (marked_items items marks) j) (not (same_item it j)) (no_more mark j parts.0) parts.1
