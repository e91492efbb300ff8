-- A place that was kept is resolved or goes into the clause, and a place that was resolved is closed.
use Rattle.std.proofs.Common.{◌≡◌, ◌⊎◌, ◌++◌, ◌∙◌, ℕ, List, [], ◌∷◌, Contains, Some, None, refl, sym, ap, subst, inl, inr}
use Rattle.std.proofs.lemmas.List.{append-nil}
use Rattle.std.proofs.lemmas.List.Elements.{Contains-push, Contains-push_cases, Contains-append_left}
use Rattle.currency_base.specs.Lists.{OnlyOnce}
use Rattle.search_trail.specs.Trails.{Entry}
use Rattle.clause_arena.specs.Arenas.{Arena}
use Rattle.watch_propagate.specs.WatchRule.{AreReasons}
use Rattle.conflict_analysis.specs.Steps.{AreMet, Fate, HasSeen, IsLeaf, IsReasoned, IsResolved, Minimizes, PopsKept, State, leaving}
use Rattle.conflict_analysis.specs.Steps.{resolving}
use Rattle.conflict_analysis.specs.Steps.Fate.{is_kept, is_resolved, is_leaf, waits}
use Rattle.conflict_analysis.proofs.Entries.{VarsOnce, reason_seen}
use Rattle.conflict_analysis.proofs.Members.{once_more, once_front, last_apart}
use Rattle.conflict_analysis.proofs.Passing.{reasoned_entry}

-- a state whose last kept place was taken out, by its parts
abbrev shorter : State → List ℕ → State
shorter s kept = record { seen = s.seen; kept = kept; resolved = s.resolved; leaves = s.leaves; low = s.low }

module _ (a : Arena) (es : List Entry) (base level place : ℕ) (s : State) (kept : List ℕ) (is : s.kept ≡ kept ++ place ∷ []) where
  in_kept : (q : ℕ) → Contains kept q → Contains s.kept q
  in_kept q there = subst (λ ps. Contains ps q) (sym is) (Contains-append_left kept (place ∷ []) q there)

  place_kept : Contains s.kept place
  place_kept = subst (λ ps. Contains ps place) (sym is) (Contains-push kept place)

  kept_here : (q : ℕ) → place ≡ q → Contains s.kept q
  kept_here q same = subst (λ p. Contains s.kept p) same place_kept

  once_kept : OnlyOnce s.kept → OnlyOnce (kept ++ place ∷ [])
  once_kept once = subst OnlyOnce is once

  still_kept : (q : ℕ) → Contains s.kept q → Contains kept q ⊎ (place ≡ q)
  still_kept q there = Contains-push_cases kept place q (subst (λ ps. Contains ps q) is there)

  -- it is resolved
  minimizes_resolved : HasSeen a es s.seen level place → (at : ℕ) → AreMet a es base level at s → AreMet a es base level
      at (resolving (shorter s kept) place)
  minimizes_resolved reason at m =
      record {
        fate = λ q h. fate q (m.fate q h);
        kept = λ q there. let k = m.kept q (in_kept q there) in record {
          seen = k.seen;
          above = k.above;
          below =
              k.below;
          not_resolved = not_resolved q there k.not_resolved;
          no_leaf = k.no_leaf;
        };
        resolved = λ q there. elim (Contains-push_cases s.resolved place q there)
            [ inl h ↦ was q (m.resolved q h) | inr same ↦ subst (λ p. IsResolved a es base level at after p) same is_new ];
        leaves = λ q there. let k = m.leaves q there in record { seen = k.seen; below = k.below; left = k.left };
        apart = λ q there leaf. elim (Contains-push_cases s.resolved place q there)
            [ inl h ↦ m.apart q h leaf | inr same ↦ (m.kept q (kept_here q same)).no_leaf leaf ];
        kept_once = once_front kept place (once_kept m.kept_once);
        resolved_once = once_more s.resolved place m.resolved_once (m.kept place place_kept).not_resolved;
        leaves_once = m.leaves_once;
        lowest = m.lowest;
        low_seen = m.low_seen;
        low_above = m.low_above;
      }
    where
      after : State
      after = resolving (shorter s kept) place

      not_resolved : (q : ℕ) → Contains kept q → (Contains s.resolved q → ⊥) → Contains (s.resolved ++ place ∷ []) q → ⊥
      not_resolved q there without h =
          elim (Contains-push_cases s.resolved place q h) [
            | inl g ↦ without g
            | inr same ↦ last_apart kept place
                (once_kept m.kept_once) (subst (λ p. Contains kept p) (sym same) there)
          ]

      was : (q : ℕ) → IsResolved a es base level at s q → IsResolved a es base level at (resolving (shorter s kept) place) q
      was q k = record { seen = k.seen; reason = k.reason; away = k.away }

      is_new : IsResolved a es base level at (resolving (shorter s kept) place) place
      is_new = let k = m.kept place place_kept in record { seen = k.seen; reason = reason; away = inl k.below }

      fate : (q : ℕ) → Fate level at s q → Fate level at (resolving (shorter s kept) place) q
      fate q (is_kept h) = elim (still_kept q h) [
        | inl g ↦ is_kept g
        | inr same ↦ is_resolved
            (subst (λ p. Contains (s.resolved ++ place ∷ []) p) same (Contains-push s.resolved place))
      ]
      fate q (is_resolved h) = is_resolved (Contains-append_left s.resolved (place ∷ []) q h)
      fate q (is_leaf h) = is_leaf h
      fate q (waits h g) = waits h g

  -- it goes into the clause
  minimizes_left : (at : ℕ) → AreMet a es base level at s → AreMet a es base level at (leaving (shorter s kept) place)
  minimizes_left at m =
      record {
        fate = λ q h. fate q (m.fate q h);
        kept = λ q there. let k = m.kept q (in_kept q there) in record {
          seen = k.seen;
          above = k.above;
          below =
              k.below;
          not_resolved = k.not_resolved;
          no_leaf = no_leaf q there k.no_leaf;
        };
        resolved = λ q there. let k = m.resolved q there in record { seen = k.seen; reason = k.reason; away = k.away };
        leaves = λ q there. elim (Contains-push_cases s.leaves place q there)
            [ inl h ↦ was q (m.leaves q h) | inr same ↦ subst (λ p. IsLeaf es base level after p) same is_new ];
        apart = λ q there leaf. elim (Contains-push_cases s.leaves place q leaf)
            [ inl h ↦ m.apart q there h | inr same ↦ (m.kept q (kept_here q same)).not_resolved there ];
        kept_once = once_front kept place (once_kept m.kept_once);
        resolved_once = m.resolved_once;
        leaves_once = once_more s.leaves place m.leaves_once (m.kept place place_kept).no_leaf;
        lowest = m.lowest;
        low_seen = m.low_seen;
        low_above = m.low_above;
      }
    where
      after : State
      after = leaving (shorter s kept) place

      no_leaf : (q : ℕ) → Contains kept q → (Contains s.leaves q → ⊥) → Contains (s.leaves ++ place ∷ []) q → ⊥
      no_leaf q there without h =
          elim (Contains-push_cases s.leaves place q h) [
            | inl g ↦ without g
            | inr same ↦ last_apart kept place
                (once_kept m.kept_once) (subst (λ p. Contains kept p) (sym same) there)
          ]

      was : (q : ℕ) → IsLeaf es base level s q → IsLeaf es base level (leaving (shorter s kept) place) q
      was q k = record { seen = k.seen; below = k.below; left = k.left }

      is_new : IsLeaf es base level (leaving (shorter s kept) place) place
      is_new = let k = m.kept place place_kept in record { seen = k.seen; below = k.below; left = inl k.above }

      fate : (q : ℕ) → Fate level at s q → Fate level at (leaving (shorter s kept) place) q
      fate q (is_kept h) = elim (still_kept q h) [
        | inl g ↦ is_kept g
        | inr same ↦ is_leaf
            (subst (λ p. Contains (s.leaves ++ place ∷ []) p) same (Contains-push s.leaves place))
      ]
      fate q (is_resolved h) = is_resolved h
      fate q (is_leaf h) = is_leaf (Contains-append_left s.leaves (place ∷ []) q h)
      fate q (waits h g) = waits h g

-- what was popped, as a state of parts
popped : (before old : State) (place : ℕ) → PopsKept before old (Some place) → old ≡ shorter before old.kept
popped before old place p = cong_parts old before p.seen p.resolved p.leaves p.low
  where
    cong_parts : (o b : State) → o.seen ≡ b.seen → o.resolved ≡ b.resolved → o.leaves ≡ b.leaves → o.low ≡ b.low
        → o ≡ shorter b o.kept
    cong_parts o b h i j k =
        ap (λ x. record { seen = x; kept = o.kept; resolved = o.resolved; leaves = o.leaves; low = o.low }) h
        ∙ ap (λ x. record { seen = b.seen; kept = o.kept; resolved = x; leaves = o.leaves; low = o.low }) i
        ∙ ap (λ x. record { seen = b.seen; kept = o.kept; resolved = b.resolved; leaves = x; low = o.low }) j
        ∙ ap (λ x. record { seen = b.seen; kept = o.kept; resolved = b.resolved; leaves = b.leaves; low = x }) k

pub minimizes_by_reason : (a : Arena) (es : List Entry) (base level place : ℕ) (before old : State) → VarsOnce es
    → AreReasons a es → PopsKept before old (Some place) → IsReasoned es place
    → Minimizes a es base level before (resolving old place)
minimizes_by_reason a es base level place before old once reasons p reason =
    record {
      seen = p.seen;
      low = p.low;
      met = λ at m. subst (λ s. AreMet a es base level at (resolving s place)) (sym (popped before old place p))
          (minimizes_resolved a es base level place before old.kept p.kept
          (let e = reasoned_entry es place reason.0 reason.1 in
          reason_seen a es once reasons before.seen level place e.0 reason.0 e.1 e.2
          (m.kept place (place_kept a es base level place before old.kept p.kept)).below) at m);
    }

pub minimizes_as_leaf : (a : Arena) (es : List Entry) (base level place : ℕ) (before old : State)
    → PopsKept before old (Some place)
    → Minimizes a es base level before (leaving old place)
minimizes_as_leaf a es base level place before old p =
    record {
      seen = p.seen;
      low = p.low;
      met = λ at m. subst (λ s. AreMet a es base level at (leaving s place)) (sym (popped before old place p))
          (minimizes_left a es base level place before old.kept p.kept at m);
    }

pub minimizes_none : (a : Arena) (es : List Entry) (base level : ℕ) (s : State) → Minimizes a es base level s s
minimizes_none a es base level s = record { seen = refl; low = refl; met = λ at m. m }

pub minimizes_more : (a : Arena) (es : List Entry) (base level : ℕ) (first now next : State) → Minimizes a es base level
    first now → Minimizes a es base level now next
    → Minimizes a es base level first next
minimizes_more a es base level first now next x y = record {
  seen = y.seen ∙ x.seen;
  low = y.low ∙ x.low;
  met =
      λ at m. y.met at (x.met at m);
}

-- none was kept any more
pub minimizes_end : (a : Arena) (es : List Entry) (base level : ℕ) (now next : State) → PopsKept now next None
    → Minimizes a es base level now next
minimizes_end a es base level now next p = record {
  seen = p.seen;
  low = p.low;
  met = λ at m. subst
      (AreMet a es base level at) same m;
}
  where
    same : now ≡ next
    same = sym (
        ap (λ x. record { seen = x; kept = next.kept; resolved = next.resolved; leaves = next.leaves; low = next.low }) p.seen
        ∙ ap (λ x. record {
          seen = now.seen;
          kept = x;
          resolved = next.resolved;
          leaves = next.leaves;
          low =
              next.low;
        }) (sym (p.kept ∙ append-nil next.kept))
        ∙ ap (λ x. record { seen = now.seen; kept = now.kept; resolved = x; leaves = next.leaves; low = next.low }) p.resolved
        ∙ ap (λ x. record { seen = now.seen; kept = now.kept; resolved = now.resolved; leaves = x; low = next.low }) p.leaves
        ∙ ap (λ x. record { seen = now.seen; kept = now.kept; resolved = now.resolved; leaves = now.leaves; low = x }) p.low)
