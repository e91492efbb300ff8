-- What is true when all has been resolved.
use Rattle.std.proofs.Common.{◌≡◌, ◌<◌, ◌≤◌, ◌∙◌, All, ℕ, List, [], Contains, length, get_or, sym, subst, inl, inr, arith}
use Rattle.std.proofs.lemmas.List.Elements.{Contains-get_or}
use Rattle.currency_base.specs.Lists.{OnlyOnce}
use Rattle.search_trail.specs.Trails.{Entry}
use Rattle.clause_arena.specs.Arenas.{Arena}
use Rattle.conflict_analysis.specs.Steps.{AreMet, ClosesAll, Completes, Fate, HasSeen, IsEnded, IsSeen, Minimizes, Sorts, State}
use Rattle.conflict_analysis.specs.Steps.Fate.{is_kept, is_resolved, is_leaf, waits}

module _ (a : Arena) (es : List Entry) (base level at : ℕ) where
  pub kept_inside : (s : State) → AreMet a es base level at s → level ≤ at → at ≤ length es
      → All (λ place. place < length es) s.kept
  kept_inside s m above inside k d within = let below =
      (m.kept (get_or s.kept k d) (Contains-get_or s.kept k d within)).below in omega (arith, below, above, inside)

  -- a state that is like another, but for the order of the resolved places
  ended_like : (s t : State) → AreMet a es base level at s →
      ((place : ℕ) → Contains s.resolved place → HasSeen a es s.seen 0 place) → s.kept ≡ [] → Sorts s t
      → IsEnded a es base level at t
  ended_like s t m closed none x =
      record {
        none_kept = x.kept ∙ none;
        fate = λ q h. fate q (m.fate q (back q h));
        leaves = λ q h. let k = m.leaves q (subst (λ ps. Contains ps q) x.leaves h) in record {
          seen =
              ahead q k.seen;
          below = k.below;
          left = k.left;
        };
        leaves_once = subst OnlyOnce (sym x.leaves) m.leaves_once;
        apart = λ q h leaf. m.apart q (x.none_new q h) (subst (λ ps. Contains ps q) x.leaves leaf);
        rises = x.rises m.resolved_once;
        closed = λ q h. subst (λ bs. HasSeen a es bs 0 q) (sym x.seen) (closed q (x.none_new q h));
        away = λ q h. elim (m.resolved q (x.none_new q h)).away [ inl g ↦ inl g | inr g ↦ inr g.0 ];
        lowest = λ q h top. let low = m.lowest q (back q h) top in omega (arith, low, x.low);
      }
    where
      back : (q : ℕ) → IsSeen t.seen q → IsSeen s.seen q
      back q h = subst (λ bs. IsSeen bs q) x.seen h

      ahead : (q : ℕ) → IsSeen s.seen q → IsSeen t.seen q
      ahead q h = subst (λ bs. IsSeen bs q) (sym x.seen) h

      fate : (q : ℕ) → Fate level at s q → Fate level at t q
      fate q (is_kept h) = is_kept (subst (λ ps. Contains ps q) (sym x.kept) h)
      fate q (is_resolved h) = is_resolved (x.none_lost q h)
      fate q (is_leaf h) = is_leaf (subst (λ ps. Contains ps q) (sym x.leaves) h)
      fate q (waits h g) = waits h g

  pub completes : (old mid closed new : State) → Minimizes a es base level old mid → mid.kept ≡ []
      → ClosesAll a es base level at mid closed → Sorts closed new
      → Completes a es base level at old new
  completes old mid closed new s none c x =
      record {
        still = λ q h. subst (λ bs. IsSeen bs q) (sym x.seen) (c.still q (subst (λ bs. IsSeen bs q) (sym s.seen) h));
        low = x.low ∙ c.low ∙ s.low;
        ended = ended_like closed new c.met c.closed (c.kept ∙ none) x;
      }
