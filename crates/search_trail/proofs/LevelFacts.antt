-- Where levels begin, and how many begin up to a place.
use Rattle.std.proofs.Common.{◌≡◌, ◌⊎◌, ◌<◌, ◌≤◌, ◌+◌, ℕ, zero, suc, true, false, cond, List, [], ◌∷◌, ◌++◌, Option, Some, None, length, take, drop, nat_le, slice_get, slice_index_or, refl, ap, subst, inl, inr, arith}
use Rattle.std.specs.List.{count_by}
use Rattle.std.proofs.lemmas.Bool.{cases_eq, le-leb, lt-leb, leb-true, leb-false}
use Rattle.std.specs.List.Sorted.{IsNonDecreasing, IsPartitionPoint}
use Rattle.std.proofs.lemmas.List.{length-take, take-append-drop}
use Rattle.std.proofs.lemmas.List.Sums.{sum_by-append, sum_by-cons}
use Rattle.std.proofs.lemmas.Option.{slice_get_within, slice_get-get_or, get_or_from_slice_get}
use Rattle.search_trail.specs.Trails.{Ascend}

-- how many levels begin up to a place
abbrev pub level_of : List ℕ → ℕ → ℕ
level_of starts place = count_by (λ start. nat_le start place) starts

abbrev pub AreBelow : List ℕ → ℕ → Type 0
AreBelow starts bound = (i start : ℕ) → slice_get starts i ≡ Some start → start < bound

pub level_cons : (start : ℕ) (starts : List ℕ) (place : ℕ) → level_of (start ∷ starts) place ≡ cond
    (nat_le start place) 1 0 + level_of starts place
level_cons start starts place = sum_by-cons (λ s. cond (nat_le s place) 1 0) start starts

pub level_append : (xs ys : List ℕ) (place : ℕ) → level_of (xs ++ ys) place ≡ level_of xs place + level_of ys place
level_append xs ys place = sum_by-append (λ s. cond (nat_le s place) 1 0) xs ys

-- all levels begin up to a place
pub level_all : (starts : List ℕ) (place : ℕ) → AreBelow starts (place + 1) → level_of starts place ≡ length starts
level_all [] place below = refl
level_all (s ∷ ss) place below =
    let here : nat_le s place ≡ true = le-leb s place (let h = below 0 s refl in omega (arith, h)) in
    let more : level_of ss place ≡ length ss = level_all ss place (λ i start is. below (suc i) start is) in
    let one : ◌≡◌ {A = ℕ} (cond (nat_le s place) 1 0) 1 = rw here refl in
    omega (arith, level_cons s ss place, more, one)

-- and none does
pub level_none : (starts : List ℕ) (place : ℕ) → ((i start : ℕ) → slice_get starts i ≡ Some start → place < start)
    → level_of starts place ≡ 0
level_none [] place above = refl
level_none (s ∷ ss) place above =
    let here : nat_le s place ≡ false = lt-leb s place (above 0 s refl) in
    let more : level_of ss place ≡ 0 = level_none ss place (λ i start is. above (suc i) start is) in
    let one : ◌≡◌ {A = ℕ} (cond (nat_le s place) 1 0) 0 = rw here refl in
    omega (arith, level_cons s ss place, more, one)

-- the items of a list cut in two
pub get_take : {A : Type 0} (n i : ℕ) (xs : List A) (x : A) → slice_get (take n xs) i ≡ Some x →
    (i < n) × (slice_get xs i ≡ Some x)
get_take zero i xs x is = absurd (cc)
get_take (suc n) i [] x is = absurd (cc)
get_take (suc n) zero (y ∷ ys) x is = (omega arith, is)
get_take (suc n) (suc i) (y ∷ ys) x is = let more = get_take n i ys x is in (omega (arith, more.0), more.1)

pub get_drop : {A : Type 0} (n i : ℕ) (xs : List A) (x : A) → slice_get (drop n xs) i ≡ Some x → slice_get xs (n + i) ≡ Some x
get_drop zero i xs x is = let e : 0 + i ≡ i = omega arith in rw e is
get_drop (suc n) i [] x is = absurd (cc)
get_drop (suc n) i (y ∷ ys) x is = let e : suc n + i ≡ suc (n + i) = omega arith in rw e (get_drop n i ys x is)

pub get_taken : {A : Type 0} (n i : ℕ) (xs : List A) (x : A) → i < n → slice_get xs i ≡ Some x → slice_get (take n xs) i ≡ Some x
get_taken zero i xs x h is = absurd (omega (arith, h))
get_taken (suc n) i [] x h is = absurd (cc)
get_taken (suc n) zero (y ∷ ys) x h is = is
get_taken (suc n) (suc i) (y ∷ ys) x h is = get_taken n i ys x (omega (arith, h)) is

-- the items of a list with one more
pub get_kept : {A : Type 0} (xs : List A) (y : A) (i : ℕ) (x : A) → slice_get xs i ≡ Some x → slice_get (xs ++ y ∷ []) i ≡ Some x
get_kept [] y i x is = absurd (cc)
get_kept (z ∷ zs) y zero x is = is
get_kept (z ∷ zs) y (suc i) x is = get_kept zs y i x is

pub get_last : {A : Type 0} (xs : List A) (y : A) → slice_get (xs ++ y ∷ []) (length xs) ≡ Some y
get_last [] y = refl
get_last (z ∷ zs) y = get_last zs y

pub get_push : {A : Type 0} (xs : List A) (y : A) (i : ℕ) (x : A) → slice_get (xs ++ y ∷ []) i ≡ Some x →
    (slice_get xs i ≡ Some x) ⊎ ((i ≡ length xs) × (y ≡ x))
get_push [] y zero x is = inr (refl, same is)
  where
    same : Some y ≡ Some x → y ≡ x
    same e = cc
get_push [] y (suc i) x is = absurd (cc)
get_push (z ∷ zs) y zero x is = inl is
get_push (z ∷ zs) y (suc i) x is = go (get_push zs y i x is)
  where
    go : (slice_get zs i ≡ Some x) ⊎ ((i ≡ length zs) × (y ≡ x)) → (slice_get zs i ≡ Some x) ⊎
        ((suc i ≡ suc (length zs)) × (y ≡ x))
    go (inl a) = inl a
    go (inr b) = inr (ap suc b.0, b.1)

pub length_more : {A : Type 0} (xs : List A) (y : A) → length (xs ++ y ∷ []) ≡ length xs + 1
length_more [] y = refl
length_more (x ∷ xs) y = let more = length_more xs y in omega (arith, more)

-- starts that ascend, as a search by halves takes them
pub rising : (starts : List ℕ) → Ascend starts → IsNonDecreasing starts
rising starts ascend i j d h within = go (cases_eq i j)
  where
    go : (i ≡ j) ⊎ (i ≡ j → ⊥) → slice_index_or starts i d ≤ slice_index_or starts j d
    go (inl e) = rw e (omega arith)
    go (inr apart) =
        let less = ascend i j (slice_index_or starts i d) (slice_index_or starts j d) (omega (arith, h, apart))
        (slice_get-get_or starts i d (omega (arith, h, within))) (slice_get-get_or starts j d within) in
        omega (arith, less)

-- up to where the starts are at most the place, there are as many as levels begin
pub level_from_point : (starts : List ℕ) (place n : ℕ) → n ≤ length starts → IsPartitionPoint
    (λ y. nat_le y place ≡ true) (λ y. nat_le y place ≡ false) starts n
    → n ≡ level_of starts place
level_from_point starts place n within point =
    let first : level_of (take n starts) place ≡ length (take n starts) = level_all (take n starts) place
    (λ i s at. before i s (get_take n i starts s at)) in
    let later : level_of (drop n starts) place ≡ 0 = level_none (drop n starts) place
    (λ i s at. after i s (get_drop n i starts s at)) in
    let both : level_of (take n starts ++ drop n starts) place ≡ level_of starts place =
    ap (λ (ss : List ℕ). level_of ss place) (take-append-drop n starts) in
    omega (arith, level_append (take n starts) (drop n starts) place, first, later, both, length-take n starts, within)
  where
    before : (i s : ℕ) → (i < n) × (slice_get starts i ≡ Some s) → s < place + 1
    before i s at =
        let there : slice_index_or starts i s ≡ s = get_or_from_slice_get starts i s s at.1 in
        let le : nat_le s place ≡ true = subst (λ t. nat_le t place ≡ true) there (point.0 i s (omega arith) at.0) in
        let h = leb-true s place le in
        omega (arith, h)

    after : (i s : ℕ) → slice_get starts (n + i) ≡ Some s → place < s
    after i s at =
        let there : slice_index_or starts (n + i) s ≡ s = get_or_from_slice_get starts (n + i) s s at in
        leb-false s place (subst (λ t. nat_le t place ≡ false) there
        (point.1 (n + i) s (omega arith) (slice_get_within starts (n + i) s at)))

-- a start below that of a level stands before it
pub opened_below : (starts : List ℕ) (level cut i start : ℕ) → Ascend starts → slice_get starts level ≡ Some cut
    → slice_get starts i ≡ Some start → start < cut → i < level
opened_below starts level cut i start ascend at there h = go (cases_eq i level)
  where
    later : (level < i → ⊥) → (i ≡ level → ⊥) → i < level
    later a b = omega (arith, a, b)

    go : (i ≡ level) ⊎ (i ≡ level → ⊥) → i < level
    go (inl e) =
        let same : slice_get starts level ≡ Some start = subst (λ j. slice_get starts j ≡ Some start) e there in
        let equal : cut ≡ start = cc in
        absurd (omega (arith, equal, h))
    go (inr apart) = later (λ more. let less = ascend level i cut start more at there in absurd (omega (arith, less, h))) apart

-- there are no more levels than entries
at_least : (starts : List ℕ) → Ascend starts → (i s : ℕ) → slice_get starts i ≡ Some s → i ≤ s
at_least starts ascend zero s is = omega arith
at_least starts ascend (suc i) s is = go (λ r at. at_least starts ascend i r at) (slice_get starts i) refl
  where
    go : ((r : ℕ) → slice_get starts i ≡ Some r → i ≤ r) → (o : Option ℕ) → slice_get starts i ≡ o → suc i ≤ s
    go before (Some r) at =
        let more = before r at in
        let less = ascend i (suc i) r s (omega arith) at is in
        omega (arith, more, less)
    go before None at = absurd (none i starts at is)
      where
        none : (k : ℕ) (xs : List ℕ) → slice_get xs k ≡ None → slice_get xs (suc k) ≡ Some s → ⊥
        none zero [] a b = absurd (cc)
        none zero (x ∷ xs) a b = absurd (cc)
        none (suc k) [] a b = absurd (cc)
        none (suc k) (x ∷ xs) a b = none k xs a b

pub few_starts : (starts : List ℕ) (bound : ℕ) → Ascend starts → AreBelow starts bound → length starts ≤ bound
few_starts starts bound ascend below = go (length starts) refl
  where
    last : (k : ℕ) (xs : List ℕ) → length xs ≡ suc k → (s : ℕ) × (slice_get xs k ≡ Some s)
    last k [] e = absurd (omega (arith, e))
    last zero (x ∷ xs) e = (x, refl)
    last (suc k) (x ∷ xs) e = last k xs (omega (arith, e))

    go : (n : ℕ) → length starts ≡ n → length starts ≤ bound
    go zero e = omega (arith, e)
    go (suc k) e =
        let at = last k starts e in
        let more = at_least starts ascend k at.0 at.1 in
        let less = below k at.0 at.1 in
        omega (arith, e, more, less)

-- one more start
pub ascend_push : (starts : List ℕ) (start : ℕ) → Ascend starts → AreBelow starts start → Ascend (starts ++ start ∷ [])
ascend_push starts start ascend below i j low high h a b = go (get_push starts start i low a) (get_push starts start j high b)
  where
    go : (slice_get starts i ≡ Some low) ⊎ ((i ≡ length starts) × (start ≡ low)) → (slice_get starts j ≡ Some high) ⊎
        ((j ≡ length starts) × (start ≡ high)) → low < high
    go (inl c) (inl d) = ascend i j low high h c d
    go (inl c) (inr d) = subst (λ s. low < s) d.1 (below i low c)
    go (inr c) (inl d) = let short = slice_get_within starts j high d in absurd (omega (arith, short, c.0, h))
    go (inr c) (inr d) = absurd (omega (arith, c.0, d.0, h))

pub below_push : (starts : List ℕ) (start : ℕ) → AreBelow starts start → AreBelow (starts ++ start ∷ []) (start + 1)
below_push starts start below i s is = go (get_push starts start i s is)
  where
    go : (slice_get starts i ≡ Some s) ⊎ ((i ≡ length starts) × (start ≡ s)) → s < start + 1
    go (inl c) = let less = below i s c in omega (arith, less)
    go (inr c) = omega (arith, c.1)
