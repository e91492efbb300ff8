-- How matches are added, one item after another.
use Rattle.std.proofs.Common.{◌≡◌, ◌<◌, ◌≤◌, ◌+◌, ◌⊎◌, inl, inr, ℕ, zero, suc, Bool, true, false, List, [], ◌∷◌, ◌++◌, length, drop, take, get_or, refl, sym, ap, subst, ◌∙◌, IsTrue, ◌↔◌, arith}
use Rattle.std.specs.BTreeSet.{insert_key}
use Rattle.std.specs.List.{Contains}
use Rattle.std.proofs.lemmas.Bool.{false≢true}
use Rattle.std.proofs.lemmas.List.{take-append-drop, take_all, take_more}
use Rattle.std.proofs.lemmas.List.Elements.{Contains-append_left, Contains-push, Contains-push_cases}
use Rattle.query_model.specs.declared.query.Match.{Match}
use Rattle.match_candidates.specs.Found.{Adds, Bounded}
use Rattle.match_candidates.specs.MatchOrder.{exact_matches}
use Rattle.match_candidates.specs.Matches.{match_cmp}
use Rattle.match_candidates.proofs.Among.{Among, from_contains, in_inserted, kept_inserted, of_inserted, to_contains}

-- ---- what is added

-- nothing, where nothing is meant
pub adds_none : (P : Match → Type 0) (old : Bounded) → ((m : Match) → P m → ⊥) → Adds P old old false
adds_none P old never = record {
  most = refl;
  kept = λ m is. is;
  sound = λ m is. inl is;
  complete = λ opened m is. absurd (never m is);
  full = λ closed. absurd (false≢true closed);
}

-- some, and then others
pub adds_also : (P Q R : Match → Type 0) (old mid new : Bounded) (is_full : Bool) → Adds P old mid false
    → Adds Q mid new is_full → ((m : Match) → P m ⊎ Q m → R m) → (is_full ≡ false → (m : Match) → R m → P m ⊎ Q m)
    → Adds R old new is_full
adds_also P Q R old mid new is_full first rest to from = record {
  most = rest.most ∙ first.most;
  kept = λ m is. rest.kept m (first.kept m is);
  sound = λ m is. second m (rest.sound m is);
  complete = λ opened m is. there opened m (from opened m is);
  full = rest.full;
}
  where
    before : (m : Match) → Contains old.matches m ⊎ P m → Contains old.matches m ⊎ R m
    before m (inl was) = inl was
    before m (inr is) = inr (to m (inl is))

    second : (m : Match) → Contains mid.matches m ⊎ Q m → Contains old.matches m ⊎ R m
    second m (inl was) = before m (first.sound m was)
    second m (inr is) = inr (to m (inr is))

    there : is_full ≡ false → (m : Match) → P m ⊎ Q m → Contains new.matches m
    there opened m (inl is) = rest.kept m (first.complete refl m is)
    there opened m (inr is) = rest.complete opened m is

-- the same, said otherwise
pub adds_same : (P R : Match → Type 0) (old new : Bounded) (is_full : Bool) → Adds P old new is_full
    → ((m : Match) → P m → R m) → ((m : Match) → R m → P m) → Adds R old new is_full
adds_same P R old new is_full adds to from = record {
  most = adds.most;
  kept = adds.kept;
  sound = λ m is. by m (adds.sound m is);
  complete = λ opened m is. adds.complete opened m (from m is);
  full = adds.full;
}
  where
    by : (m : Match) → Contains old.matches m ⊎ P m → Contains old.matches m ⊎ R m
    by m (inl was) = inl was
    by m (inr is) = inr (to m is)

-- one match
pub adds_one : (P : Match → Type 0) (old new : Bounded) (one : Match) (is_full : Bool)
    → new.most ≡ old.most → new.matches ≡ insert_key match_cmp old.matches one
    → IsTrue is_full ↔ (new.most < length new.matches) → P one → ((other : Match) → P other → one ≡ other)
    → Adds P old new is_full
adds_one P old new one is_full bound after tells meant only = record {
  most = bound;
  kept = λ other was. placed other
      (to_contains _ other (kept_inserted match_cmp old.matches one other (from_contains old.matches other was)));
  sound = λ other is. by other (of_inserted match_cmp old.matches one other
      (from_contains _ other (subst (λ l. Contains l other) after is)));
  complete = λ opened other is. placed other
      (subst (Contains (insert_key match_cmp old.matches one)) (only other is)
      (to_contains _ one (in_inserted match_cmp exact_matches old.matches one)));
  full = λ closed. tells.0 closed;
}
  where
    placed : (other : Match) → Contains (insert_key match_cmp old.matches one) other → Contains new.matches other
    placed other is = subst (λ l. Contains l other) (sym after) is

    by : (other : Match) → Among old.matches other ⊎ (one ≡ other) → Contains old.matches other ⊎ P other
    by other (inl was) = inl (to_contains old.matches other was)
    by other (inr same) = inr (subst P same meant)

-- some, and then others, once there are too many
pub adds_stop : (P Q R : Match → Type 0) (old mid new : Bounded) (is_full : Bool) → is_full ≡ true → Adds P old mid false
    → Adds Q mid new is_full → ((m : Match) → P m ⊎ Q m → R m) → Adds R old new true
adds_stop P Q R old mid new is_full closed first rest to =
    adds_also P Q R old mid new true first (subst (Adds Q mid new) closed rest) to (λ opened. absurd (false≢true (sym opened)))

-- ---- one item after another

contains_front : {A : Type 0} (xs : List A) (i : ℕ) (x : A) → Contains (take i xs) x → Contains xs x
contains_front xs i x is = subst (λ l. Contains l x) (take-append-drop i xs) (Contains-append_left (take i xs) (drop i xs) x is)

-- what is read at a place is read there whatever stands for a place that is not there
pub read_again : {A : Type 0} (xs : List A) (i : ℕ) (d : A) → i < length xs → get_or xs i d ≡ get_or xs i (get_or xs i d)
read_again [] i d within = absurd (omega (arith, within))
read_again (x ∷ xs) zero d within = refl
read_again (x ∷ xs) (suc i) d within = read_again xs i d (omega (arith, within))

-- what one of the items means
pub record ByOne {A : Type 0} (P : A → Match → Type 0) (xs : List A) (m : Match) : Type 0 where
  pub item : A
  pub is_item : Contains xs item
  pub is : P item m

module _ {A : Type 0} (P : A → Match → Type 0) (xs : List A) (old : Bounded) where
  pub by_none : Adds (ByOne P (take 0 xs)) old old false
  by_none = adds_none (ByOne P (take 0 xs)) old (λ m is. from_contains [] is.item is.is_item)

  pub by_more : (i : ℕ) (x : A) (mid new : Bounded) → i < length xs → x ≡ get_or xs i x
      → Adds (ByOne P (take i xs)) old mid false → Adds (P x) mid new false → Adds (ByOne P (take (i + 1) xs)) old new false
  by_more i x mid new within at first then_ =
      subst (λ l. Adds (ByOne P l) old new false) (sym (take_more xs i x within ∙ ap (λ y. take i xs ++ y ∷ []) (sym at)))
      (adds_also (ByOne P (take i xs)) (P x) (ByOne P (take i xs ++ x ∷ [])) old mid new false first then_ to (λ opened. from))
    where
      to : (m : Match) → ByOne P (take i xs) m ⊎ P x m → ByOne P (take i xs ++ x ∷ []) m
      to m (inl is) = record {
        item = is.item;
        is_item = Contains-append_left (take i xs) (x ∷ []) is.item is.is_item;
        is = is.is;
      }
      to m (inr is) = record { item = x; is_item = Contains-push (take i xs) x; is = is }

      from : (m : Match) → ByOne P (take i xs ++ x ∷ []) m → ByOne P (take i xs) m ⊎ P x m
      from m is = by (Contains-push_cases (take i xs) x is.item is.is_item)
        where
          by : Contains (take i xs) is.item ⊎ (x ≡ is.item) → ByOne P (take i xs) m ⊎ P x m
          by (inl before) = inl record { item = is.item; is_item = before; is = is.is }
          by (inr same) = inr (subst (λ y. P y m) (sym same) is.is)

  of_front : (R : Match → Type 0) (i : ℕ) → ((m : Match) → ByOne P xs m → R m) → (m : Match) → ByOne P (take i xs) m → R m
  of_front R i to m is = to m (record { item = is.item; is_item = contains_front xs i is.item is.is_item; is = is.is })

  -- it stops at an item
  pub by_stop : (R : Match → Type 0) (i : ℕ) (x : A) (mid new : Bounded) (is_full : Bool) → is_full ≡ true → i < length xs
      → x ≡ get_or xs i x
      → Adds (ByOne P (take i xs)) old mid false → Adds (P x) mid new is_full → ((m : Match) → ByOne P xs m → R m)
      → Adds R old new true
  by_stop R i x mid new is_full closed within at first then_ to =
      adds_stop (ByOne P (take i xs)) (P x) R old mid new is_full closed first then_ both
    where
      both : (m : Match) → ByOne P (take i xs) m ⊎ P x m → R m
      both m (inl is) = of_front R i to m is
      both m (inr is) = to m (record { item = x; is_item = (i, within, sym at); is = is })

  -- all items were gone through
  pub by_all : (R : Match → Type 0) (i : ℕ) (new : Bounded) → length xs ≤ i → Adds (ByOne P (take i xs)) old new false
      → ((m : Match) → ByOne P xs m → R m) → ((m : Match) → R m → ByOne P xs m) → Adds R old new false
  by_all R i new past adds to from =
      adds_same (ByOne P (take i xs)) R old new false adds (of_front R i to)
      (λ m is. subst (λ l. ByOne P l m) (sym (take_all i xs past)) (from m is))
