-- How a clause stands whose literals have changed places.
use Rattle.std.proofs.Common.{◌≡◌, ◌≢◌, ◌⊎◌, ◌<◌, ◌≤◌, ◌∙◌, ℕ, zero, suc, List, [], ◌∷◌, Some, Contains, length, slice_get, refl, sym, ap, subst, ◌+◌, inl, inr, arith}
use Rattle.std.proofs.lemmas.Bool.{cases_eq}
use Rattle.std.proofs.lemmas.Option.{same_Some, slice_get_within}
use Rattle.currency_base.specs.Literals.{negation}
use Rattle.currency_base.specs.declared.lit.Lit.{Lit}
use Rattle.refutation_log.specs.Counted.{IsOpen}
use Rattle.watch_propagate.proofs.KeptLists.{contains_at, stands_at}
use Rattle.search_state.specs.Held.{BeginsOpen, BeginsUnit, HaveChanged, IsKnown}
use Rattle.search_state.proofs.Swaps.{changed_same}

abbrev pub NoneTrue : List Lit → List Lit → Type 0
NoneTrue truths xs = (k : ℕ) (x : Lit) → slice_get xs k ≡ Some x → Contains truths x → ⊥

abbrev pub OpenAt : List Lit → ℕ → List Lit → Type 0
OpenAt truths place xs = (x : Lit) → slice_get xs place ≡ Some x → IsOpen truths x

abbrev pub KnownFrom : List Lit → ℕ → List Lit → Type 0
KnownFrom truths start xs = (k : ℕ) (x : Lit) → start ≤ k → slice_get xs k ≡ Some x → IsKnown truths x

-- what stands within a list
there : (xs : List Lit) (k : ℕ) → k < length xs → (x : Lit) × (slice_get xs k ≡ Some x)
there xs k h = by xs k h
  where
    by : (ys : List Lit) (i : ℕ) → i < length ys → (x : Lit) × (slice_get ys i ≡ Some x)
    by (y ∷ ys) zero h = (y, refl)
    by (y ∷ ys) (suc i) h = by ys i (omega (arith, h))
    by [] i h = absurd (omega (arith, h))

-- an open literal comes first, and of the others none is true or open
pub begins_unit : (truths xs ys : List Lit) (place : ℕ) → HaveChanged xs ys 0 place → place < length xs
    → NoneTrue truths xs → OpenAt truths place xs
    → KnownFrom truths 1 ys → BeginsUnit truths ys
begins_unit truths xs ys place changed within none is_open known =
    let at = there xs place within in
    let head : slice_get ys 0 ≡ Some at.0 = changed.at_from ∙ at.1 in
    record {
      first = at.0;
      is_first = head;
      unit = record {
        is_in = contains_at ys 0 at.0 head;
        is_open = is_open at.0 at.1;
        others = λ other c d. others
            at.0 head other d (stands_at ys other c);
      };
    }
  where
    not_true : (x : Lit) → Contains ys x → Contains truths x → ⊥
    not_true x c holds = let at = stands_at xs x ((changed_same xs ys 0 place changed).none_new x c) in none at.0 x at.1 holds

    others : (first : Lit) → slice_get ys 0 ≡ Some first → (other : Lit) → other ≢ first →
        (k : ℕ) × (slice_get ys k ≡ Some other) → Contains truths (negation other)
    others first head other d (zero, is) = absurd (d (same_Some other first (sym is ∙ head)))
    others first head other d (suc k, is) = go (known (suc k) other (omega arith) is).known
      where
        go : Contains truths other ⊎ Contains truths (negation other) → Contains truths (negation other)
        go (inl holds) = absurd (not_true other (contains_at ys (suc k) other is) holds)
        go (inr n) = n

-- two open literals come first
pub begins_open : (truths xs ys zs : List Lit) (place other : ℕ) → HaveChanged xs ys 0 place → HaveChanged ys zs 1
    other → place < length xs → other < length ys
    → 1 ≤ other → OpenAt truths place xs → OpenAt truths other ys → BeginsOpen truths zs
begins_open truths xs ys zs place other one two within within' later is_open is_open' =
    let at = there xs place within in
    let at' = there ys other within' in
    record {
      first = at.0;
      second = at'.0;
      is_first = two.others 0 (λ e. omega (arith, e)) (λ e. omega (arith, e, later)) ∙ one.at_from ∙ at.1;
      is_second = two.at_from ∙ at'.1;
      first_open = is_open at.0 at.1;
      second_open = is_open' at'.0 at'.1;
    }

-- ---- what a loop has seen

abbrev pub KnownTo : List Lit → ℕ → ℕ → List Lit → Type 0
KnownTo truths start place xs = (k : ℕ) (x : Lit) → start ≤ k → k < place → slice_get xs k ≡ Some x → IsKnown truths x

pub known_more : (truths : List Lit) (start place : ℕ) (xs : List Lit) (y : Lit) → KnownTo truths start place xs
    → slice_get xs place ≡ Some y → IsKnown truths y
    → KnownTo truths start (place + 1) xs
known_more truths start place xs y seen is known k x h below there = go (cases_eq k place)
  where
    go : (k ≡ place) ⊎ (k ≡ place → ⊥) → IsKnown truths x
    go (inl e) = subst (IsKnown truths) (same_Some y x (sym is ∙ ap (slice_get xs) (sym e) ∙ there)) known
    go (inr d) = seen k x h (omega (arith, d, below)) there

pub known_all : (truths : List Lit) (start place : ℕ) (xs : List Lit) → KnownTo truths start place xs
    → length xs ≤ place → KnownFrom truths start xs
known_all truths start place xs seen h k x later is = seen k x later (omega (arith, slice_get_within xs k x is, h)) is
