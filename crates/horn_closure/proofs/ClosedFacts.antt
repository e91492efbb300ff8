-- What is closed over the cells that were gone over.
use Rattle.std.proofs.Common.{◌≡◌, ◌⊎◌, ◌+◌, ◌<◌, ◌≤◌, ◌∙◌, ℕ, zero, suc, List, [], ◌∷◌, Contains, Some, length, take, slice_get, slice_index_or, length-append, sym, ap, refl, subst, inl, inr, arith}
use Rattle.std.proofs.lemmas.List.{take-append-le}
use Rattle.std.proofs.lemmas.Option.{same_Some, slice_get_within}
use Rattle.horn_closure.specs.Least.{Meet, IsAmong}
use Rattle.horn_closure.specs.Steps.{StandsAt, AreDerived, IsLonger, IsCellAt, AreJoined, AreUsesLookedAt, IsGoneOver, IsClosedOver, horn}
use Rattle.horn_closure.specs.declared.derived.Derived.{Derived}
use Rattle.horn_closure.specs.declared.squares.Cell.{Cell}
use Rattle.horn_closure.proofs.Derivations.{among_at, among_longer, among_stands, get_push, get_take, longer_twice, take_at}
use Rattle.horn_closure.proofs.CellFacts.{goes_on, comes_to}
use Rattle.horn_closure.proofs.LookFacts.{concludes_before}

-- ---- one cell is gone over

pub gone_over : (sizes : List ℕ) (premises : List (List ℕ)) (conclusions : List ℕ) (place slot : ℕ) (cell : Cell)
    (old mid new : List Derived)
    → StandsAt old place slot → IsCellAt sizes cell slot → AreJoined cell place cell.size old mid
    → AreUsesLookedAt premises conclusions slot mid new → IsGoneOver sizes premises conclusions place old new
gone_over sizes premises conclusions place slot cell old mid new stands is joined looked = record {
  longer = longer_twice old mid new joined.longer looked.longer;
  sound = λ facts each. looked.sound (horn sizes facts premises conclusions) refl refl
      (joined.sound (horn sizes facts premises conclusions) slot is stands each);
  slot = slot;
  cell = cell;
  is_cell = is;
  stands = stands;
  ahead = λ other less a. among_longer mid new _ looked.longer (joined.ahead other less a);
  behind = λ other less a. among_longer mid new _ looked.longer (joined.behind other less a);
  found = λ k ps at c. concludes_before premises conclusions k old mid new joined.longer (looked.found k ps at c);
}

-- ---- the cells that were gone over

-- a cell among those up to a place is among those before it, or stands there
among_next : (old : List Derived) (place : ℕ) (d : Derived) (s : ℕ) → slice_get old place ≡ Some d
    → IsAmong (take (place + 1) old) s
    → IsAmong (take place old) s ⊎ (d.slot ≡ s)
among_next old place d s at a = go (among_stands (take (place + 1) old) s a)
  where
    by : (i : ℕ) (e : Derived) → e.slot ≡ s → (slice_get (take place old) i ≡ Some e) ⊎ ((i ≡ length (take place old)) × (d ≡ e))
        → IsAmong (take place old) s ⊎ (d.slot ≡ s)
    by i e is (inl there) = inl (among_at (take place old) i e s there is)
    by i e is (inr last) = inr (ap (λ (x : Derived). x.slot) last.1 ∙ is)

    go : (i : ℕ) × StandsAt (take (place + 1) old) i s → IsAmong (take place old) s ⊎ (d.slot ≡ s)
    go st = by st.0 st.1.one st.1.slot_is
        (get_push (take place old) d st.0 st.1.one (ap (λ xs. slice_get xs st.0) (sym (take_at old place d at)) ∙ st.1.is_one))

among_front : (old : List Derived) (n s : ℕ) → IsAmong (take n old) s → IsAmong old s
among_front old n s a =
    let st = among_stands (take n old) s a in
    let there = get_take n old st.0 st.1.one st.1.is_one in
    among_at old st.0 st.1.one s there.1 st.1.slot_is

-- all of some cells are among those before a place, or one of them stands there
all_next : (old : List Derived) (place : ℕ) (d : Derived) (ps : List ℕ) → slice_get old place ≡ Some d
    → ((p : ℕ) → Contains ps p → IsAmong (take (place + 1) old) p) →
    ((p : ℕ) → Contains ps p → IsAmong (take place old) p) ⊎ Contains ps d.slot
all_next old place d [] at all = inl (λ p c. absurd (omega (arith, c.1)))
all_next old place d (q ∷ qs) at all =
    go (among_next old place d q at (all q (0, omega arith, refl)))
    (all_next old place d qs at (λ p c. all p (suc c.0, omega (arith, c.1), c.2)))
  where
    both : IsAmong (take place old) q → ((p : ℕ) → Contains qs p → IsAmong (take place old) p) → (p i : ℕ) → i < length (q ∷ qs)
        → slice_index_or (q ∷ qs) i p ≡ p → IsAmong (take place old) p
    both a rest p zero less is = subst (IsAmong (take place old)) is a
    both a rest p (suc i) less is = rest p (i, omega arith, is)

    go : IsAmong (take place old) q ⊎ (d.slot ≡ q) → ((p : ℕ) → Contains qs p → IsAmong (take place old) p) ⊎ Contains qs d.slot
        → ((p : ℕ) → Contains (q ∷ qs) p → IsAmong (take place old) p) ⊎ Contains (q ∷ qs) d.slot
    go (inr e) b = inr (0, omega arith, sym e)
    go (inl a) (inr c) = inr (suc c.0, omega (arith, c.1), c.2)
    go (inl a) (inl rest) = inl (λ p c. both a rest p c.0 c.1 c.2)

module _ (sizes : List ℕ) (premises : List (List ℕ)) (conclusions : List ℕ) where
  closed_more : (place : ℕ) (old new : List Derived) (d : Derived) → slice_get old place ≡ Some d
      → IsGoneOver sizes premises conclusions place old new
      → IsClosedOver sizes premises conclusions (take place old) old → IsClosedOver sizes premises conclusions
      (take (place + 1) old) new
  closed_more place old new d at over closed = record {
    joins = λ first second third m a b. joins first second third m (among_next old place d first at a)
        (among_next old place d second at b)
        (among_front old (place + 1) first a) (among_front old (place + 1) second b);
    clauses = λ k. record {
      concludes = λ ps slot is_ps is_slot all. clauses k ps slot is_ps is_slot all
          (all_next old place d ps at all);
    };
  }
    where
      slot_is : d.slot ≡ over.slot
      slot_is = ap (λ (x : Derived). x.slot) (same_Some d over.stands.one (sym at ∙ over.stands.is_one)) ∙ over.stands.slot_is

      from : (first second third : ℕ) → Meet sizes first second third → first ≡ over.slot → IsAmong old second → IsAmong new third
      from first second third m same b =
          let on = goes_on sizes over.cell over.slot over.is_cell second third (subst (λ s. Meet sizes s second third) same m) in
          subst (IsAmong new) (sym on.3) (over.ahead on.0 on.1 (subst (IsAmong old) on.2 b))

      to : (first second third : ℕ) → Meet sizes first second third → second ≡ over.slot → IsAmong old first → IsAmong new third
      to first second third m same a =
          let on = comes_to sizes over.cell over.slot over.is_cell first third (subst (λ s. Meet sizes first s third) same m) in
          subst (IsAmong new) (sym on.3) (over.behind on.0 on.1 (subst (IsAmong old) on.2 a))

      joins : (first second third : ℕ) → Meet sizes first second third → IsAmong (take place old) first ⊎ (d.slot ≡ first)
          → IsAmong (take place old) second ⊎ (d.slot ≡ second) → IsAmong old first → IsAmong old second → IsAmong new third
      joins first second third m (inl a) (inl b) f s = among_longer old new third over.longer
          (closed.joins first second third m a b)
      joins first second third m (inr e) b f s = from first second third m (sym e ∙ slot_is) s
      joins first second third m (inl a) (inr e) f s = to first second third m (sym e ∙ slot_is) f

      clauses : (k : ℕ) (ps : List ℕ) (slot : ℕ) → slice_get premises k ≡ Some ps → slice_get conclusions k ≡ Some slot
          → ((p : ℕ) → Contains ps p → IsAmong (take (place + 1) old) p)
          → ((p : ℕ) → Contains ps p → IsAmong (take place old) p) ⊎ Contains ps d.slot → IsAmong new slot
      clauses k ps slot is_ps is_slot all (inl before) =
          among_longer old new slot over.longer ((closed.clauses k).concludes ps slot is_ps is_slot before)
      clauses k ps slot is_ps is_slot all (inr c) =
          (over.found k ps is_ps (subst (Contains ps) slot_is c)).concludes ps slot is_ps is_slot
          (λ p in_ps. among_front old (place + 1) p (all p in_ps))

  -- ---- the loop

  -- the cells before a place were gone over
  pub record IsClosedUpTo (place : ℕ) (old now : List Derived) : Type 0 where
    pub within : place ≤ length now
    pub longer : IsLonger old now
    pub sound : (facts : List ℕ) → AreDerived (horn sizes facts premises conclusions) old → AreDerived
        (horn sizes facts premises conclusions) now
    pub closed : IsClosedOver sizes premises conclusions [] old → IsClosedOver sizes premises conclusions (take place now) now

  pub up_to_more : (place : ℕ) (old now new : List Derived) → IsClosedUpTo place old now → IsGoneOver sizes premises
      conclusions place now new
      → IsClosedUpTo (place + 1) old new
  up_to_more place old now new so_far over = record {
    within = within_is;
    longer = longer_twice old now new so_far.longer over.longer;
    sound = λ facts each. over.sound facts (so_far.sound facts each);
    closed = λ none. subst (λ xs. IsClosedOver sizes premises conclusions xs new) (sym front)
        (closed_more place now new over.stands.one over.stands.is_one over (so_far.closed none));
  }
    where
      room : place + 1 ≤ length now
      room = omega (arith, slice_get_within now place over.stands.one over.stands.is_one)

      within_is : place + 1 ≤ length new
      within_is = omega (arith, room, ap length over.longer.is, length-append now over.longer.rest)

      front : take (place + 1) new ≡ take (place + 1) now
      front = ap (take (place + 1)) over.longer.is ∙ take-append-le (place + 1) now over.longer.rest room
