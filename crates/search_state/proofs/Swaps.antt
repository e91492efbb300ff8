-- Two items of a list change places: the same items, none at two places.
use Rattle.std.proofs.Common.{◌≡◌, ◌≢◌, ◌⊎◌, ◌<◌, ◌∙◌, ℕ, List, [], ◌∷◌, length, slice_get, slice_set, slice_index_or, refl, sym, ap, inl, inr, arith}
use Rattle.std.specs.List.{swap}
use Rattle.std.proofs.lemmas.Bool.{cases_eq}
use Rattle.std.proofs.lemmas.List.{length-set}
use Rattle.std.proofs.lemmas.Option.{slice_get-get_or}
use Rattle.currency_base.specs.Lists.{OnlyOnce}
use Rattle.currency_base.specs.declared.lit.Lit.{Lit}
use Rattle.watch_propagate.specs.WatchRule.{AreSameLits}
use Rattle.watch_propagate.proofs.KeptLists.{contains_at, stands_at}
use Rattle.watch_propagate.proofs.WalkItems.{get_other, get_same}
use Rattle.search_state.specs.Held.{HaveChanged}

-- what `swap` does
pub changed_by_swap : (xs ys : List Lit) (i j : ℕ) → i < length xs → j < length xs → ys ≡ swap xs i j → HaveChanged xs ys i j
changed_by_swap [] ys i j hi hj is = absurd (omega (arith, hi))
changed_by_swap (d ∷ rest) ys i j hi hj is =
    record {
      at_from = ap (λ (zs : List Lit). slice_get zs i) is ∙ from (cases_eq i j);
      at_to = ap (λ (zs : List Lit). slice_get zs j) is ∙ to;
      others = λ k a b. ap (λ (zs : List Lit). slice_get zs k) is ∙ get_other (slice_set xs i y) j k x b ∙ get_other xs i k y a;
      as_many = ap length is ∙ length-set (slice_set xs i y) j x ∙ length-set xs i y;
    }
  where
    xs : List Lit
    xs = d ∷ rest

    x : Lit
    x = slice_index_or xs i d

    y : Lit
    y = slice_index_or xs j d

    to : slice_get (slice_set (slice_set xs i y) j x) j ≡ slice_get xs i
    to = get_same (slice_set xs i y) j x (omega (arith, hj, length-set xs i y)) ∙ sym (slice_get-get_or xs i d hi)

    from : (i ≡ j) ⊎ (i ≡ j → ⊥) → slice_get (slice_set (slice_set xs i y) j x) i ≡ slice_get xs j
    from (inl e) = ap (slice_get (slice_set (slice_set xs i y) j x)) e ∙ to ∙ ap (slice_get xs) e
    from (inr apart) = get_other (slice_set xs i y) j i x apart ∙ get_same xs i y hi ∙ sym (slice_get-get_or xs j d hj)

module _ (xs ys : List Lit) (i j : ℕ) (changed : HaveChanged xs ys i j) where
  -- where an item stood before
  record CameFrom (k was : ℕ) : Type 0 where
    pub is : slice_get ys k ≡ slice_get xs was
    pub how : ((k ≡ i) × (was ≡ j)) ⊎ (((k ≡ j) × (was ≡ i)) ⊎ ((k ≢ i) × (k ≢ j) × (was ≡ k)))

  came_from : (k : ℕ) → (was : ℕ) × CameFrom k was
  came_from k = go (cases_eq k i) (cases_eq k j)
    where
      go : (k ≡ i) ⊎ (k ≡ i → ⊥) → (k ≡ j) ⊎ (k ≡ j → ⊥) → (was : ℕ) × CameFrom k was
      go (inl e) other = (j, record { is = ap (slice_get ys) e ∙ changed.at_from; how = inl (e, refl) })
      go (inr a) (inl e) = (i, record { is = ap (slice_get ys) e ∙ changed.at_to; how = inr (inl (e, refl)) })
      go (inr a) (inr b) = (k, record { is = changed.others k a b; how = inr (inr (a, b, refl)) })

  -- and where it stands now
  stands_now : (k : ℕ) → (now : ℕ) × (slice_get ys now ≡ slice_get xs k)
  stands_now k = go (cases_eq k i) (cases_eq k j)
    where
      go : (k ≡ i) ⊎ (k ≡ i → ⊥) → (k ≡ j) ⊎ (k ≡ j → ⊥) → (now : ℕ) × (slice_get ys now ≡ slice_get xs k)
      go (inl e) other = (j, changed.at_to ∙ ap (slice_get xs) (sym e))
      go (inr a) (inl e) = (i, changed.at_from ∙ ap (slice_get xs) (sym e))
      go (inr a) (inr b) = (k, changed.others k a b)

  pub changed_same : AreSameLits xs ys
  changed_same =
      record {
        none_lost = λ x c. let at = stands_at xs x c in let now = stands_now at.0 in contains_at ys now.0 x (now.1 ∙ at.1);
        none_new = λ x c. let at = stands_at ys x c in let was = came_from at.0 in contains_at xs was.0 x (sym was.1.is ∙ at.1);
        as_many = changed.as_many;
      }

  pub changed_once : OnlyOnce xs → OnlyOnce ys
  changed_once once p q x one other =
      let a = came_from p in
      let b = came_from q in
      let same : a.0 ≡ b.0 = once a.0 b.0 x (sym a.1.is ∙ one) (sym b.1.is ∙ other) in
      go a.0 b.0 same a.1.how b.1.how
    where
      go : (v w : ℕ) → v ≡ w → ((p ≡ i) × (v ≡ j)) ⊎ (((p ≡ j) × (v ≡ i)) ⊎ ((p ≢ i) × (p ≢ j) × (v ≡ p)))
          → ((q ≡ i) × (w ≡ j)) ⊎ (((q ≡ j) × (w ≡ i)) ⊎ ((q ≢ i) × (q ≢ j) × (w ≡ q))) → p ≡ q
      go v w e (inl a) (inl b) = omega (arith, a.0, b.0)
      go v w e (inl a) (inr (inl b)) = omega (arith, e, a.0, a.1, b.0, b.1)
      go v w e (inl a) (inr (inr b)) = absurd (b.1 (omega (arith, e, a.1, b.2)))
      go v w e (inr (inl a)) (inl b) = omega (arith, e, a.0, a.1, b.0, b.1)
      go v w e (inr (inl a)) (inr (inl b)) = omega (arith, a.0, b.0)
      go v w e (inr (inl a)) (inr (inr b)) = absurd (b.0 (omega (arith, e, a.1, b.2)))
      go v w e (inr (inr a)) (inl b) = absurd (a.1 (omega (arith, e, a.2, b.1)))
      go v w e (inr (inr a)) (inr (inl b)) = absurd (a.0 (omega (arith, e, a.2, b.1)))
      go v w e (inr (inr a)) (inr (inr b)) = omega (arith, e, a.2, b.2)
