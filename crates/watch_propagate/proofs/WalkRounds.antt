-- A walk over the clauses that watch a false literal.
use Rattle.std.proofs.Common.{◌≡◌, ◌≢◌, ◌⊎◌, ◌<◌, ◌∙◌, ℕ, List, [], ◌∷◌, Option, Some, None, Contains, length, refl, sym, ap, subst, inl, inr, arith}
use Rattle.std.proofs.lemmas.Bool.{cases_eq}
use Rattle.currency_base.specs.Literals.{negation}
use Rattle.currency_base.specs.declared.lit.Lit.{Lit}
use Rattle.watch_links.specs.Links.{IsIn, HasNoneTwice, coming_after, following, head_of, rest_from, without}
use Rattle.watch_links.proofs.SlotLists.{coming_in, cut_follows, in_without, not_in_without, rest_at_end, rest_at_head, rest_is, rest_without}
use Rattle.clause_arena.specs.Arenas.{Arena, watchers_of}
use Rattle.search_trail.specs.Trails.{Trail, lits_of}
use Rattle.watch_propagate.specs.WatchRule.{KeepsWatch}
use Rattle.watch_propagate.specs.Walks.{GoesOff, GoesOn, IsPending, IsSeenTo, KeepsOthers, SeesTo}
use Rattle.watch_propagate.proofs.WalkLits.{contains_at}
use Rattle.watch_propagate.proofs.WalkGoes.{goes_same, goes_on, lit_stays}

-- the walk is at a clause, or at its end, and behind another, or at the beginning: each clause that watches the literal is still
-- before it, or was seen to
pub record IsGoing (behind at : Option ℕ) (was a : Arena) (before t : Trail) (lit : Lit) : Type 0 where
  pub goes : GoesOn was a before t
  pub comes : coming_after behind (watchers_of a lit) ≡ at
  pub seen : (clause : ℕ) → IsIn clause (watchers_of a lit) → IsIn clause (rest_from at (watchers_of a lit)) ⊎
      IsSeenTo a t lit clause

pub going_begins : (at : Option ℕ) (a : Arena) (t : Trail) (lit : Lit) → KeepsWatch a t → at ≡ head_of
    (watchers_of a lit) → IsGoing None at a a t t lit
going_begins at a t lit rule first =
    record {
      goes = goes_same a t rule;
      comes = sym first;
      seen = λ clause i. inl (rw (first, rest_at_head (watchers_of a lit)) i);
    }

-- what is known while it goes on
module _ (behind at : Option ℕ) (was a : Arena) (before t : Trail) (lit : Lit) (g : IsGoing behind at was a before t lit) where
  pub going_false : IsPending before lit → Contains (lits_of t) (negation lit)
  going_false pending = contains_at (lits_of t) before.gone (negation lit)
      (lit_stays a before t before.gone (negation lit) g.goes.implies pending)

  -- at its end all were seen to
  pub going_ends : at ≡ None → (clause : ℕ) → IsIn clause (watchers_of a lit) → IsSeenTo a t lit clause
  going_ends is clause i = go (g.seen clause i)
    where
      rest : rest_from at (watchers_of a lit) ≡ []
      rest = ap (λ (o : Option ℕ). rest_from o (watchers_of a lit)) is ∙ rest_at_end (watchers_of a lit)

      go : IsIn clause (rest_from at (watchers_of a lit)) ⊎ IsSeenTo a t lit clause → IsSeenTo a t lit clause
      go (inl j) = let none : ⊥ = subst (IsIn clause) rest j in absurd none
      go (inr s) = s

  module _ (clause : ℕ) (is : at ≡ Some clause) where
    -- the clause where it is comes after the one that it is behind
    pub going_comes : coming_after behind (watchers_of a lit) ≡ Some clause
    going_comes = g.comes ∙ is

    pub going_stands : IsIn clause (watchers_of a lit)
    going_stands = coming_in behind clause (watchers_of a lit) going_comes

    module _ (once : HasNoneTwice (watchers_of a lit)) (next : Option ℕ)
        (on : next ≡ following clause (watchers_of a lit)) (b : Arena) (u : Trail) where
      abbrev list : List ℕ
      list = watchers_of a lit

      rest_now : rest_from at list ≡ clause ∷ rest_from (following clause list) list
      rest_now = ap (λ (o : Option ℕ). rest_from o list) is ∙ rest_is clause list once going_stands

      shorter : length (rest_from (following clause list) list) < length (rest_from at list)
      shorter = rw rest_now (omega arith)

      -- what is before it grows shorter
      pub going_falls : SeesTo a b u lit clause → length (rest_from next (watchers_of b lit)) < length (rest_from at list)
      going_falls s = rw (on, s.0) shorter

      pub going_falls_off : GoesOff a b lit clause → length (rest_from next (watchers_of b lit)) < length (rest_from at list)
      going_falls_off off = rw (on, off, rest_without clause list once) shorter

      module _ (step : GoesOn a b t u) (others : KeepsOthers a b t u lit clause) where
        -- the clause where it is was seen to, and it is behind it from then on
        stays_seen : IsSeenTo b u lit clause → (c : ℕ) → IsIn c (rest_from at list) ⊎ IsSeenTo a t lit c
            → IsIn c (rest_from (following clause list) list) ⊎ IsSeenTo b u lit c
        stays_seen here c (inl i) = go (subst (IsIn c) rest_now i)
          where
            go : IsIn c (clause ∷ rest_from (following clause list) list)
                → IsIn c (rest_from (following clause list) list) ⊎ IsSeenTo b u lit c
            go (inl e) = inr (subst (IsSeenTo b u lit) (sym e) here)
            go (inr j) = inl j
        stays_seen here c (inr s) = go (cases_eq c clause)
          where
            go : (c ≡ clause) ⊎ (c ≢ clause) → IsIn c (rest_from (following clause list) list) ⊎ IsSeenTo b u lit c
            go (inl e) = inr (subst (IsSeenTo b u lit) (sym e) here)
            go (inr d) = inr (others c d s)

        pub going_on : SeesTo a b u lit clause → IsGoing (Some clause) next was b before u lit
        going_on s =
            record {
              goes = goes_on was a b before t u g.goes step;
              comes = rw (on, s.0) refl;
              seen = λ c i. rw (on, s.0) (stays_seen s.1 c (g.seen c (subst (IsIn c) s.0 i)));
            }

        -- or it watches the literal no more, and the walk is behind the same as before
        goes_off : (c : ℕ) → c ≢ clause → IsIn c (rest_from at list) ⊎ IsSeenTo a t lit c
            → IsIn c (rest_from (following clause list) (without clause list)) ⊎ IsSeenTo b u lit c
        goes_off c d (inl i) = go (subst (IsIn c) rest_now i)
          where
            go : IsIn c (clause ∷ rest_from (following clause list) list)
                → IsIn c (rest_from (following clause list) (without clause list)) ⊎ IsSeenTo b u lit c
            go (inl e) = absurd (d e)
            go (inr j) = inl (rw (rest_without clause list once) j)
        goes_off c d (inr s) = inr (others c d s)

        pub going_on_off : GoesOff a b lit clause → IsGoing behind next was b before u lit
        going_on_off off =
            record {
              goes = goes_on was a b before t u g.goes step;
              comes = rw (on, off) (cut_follows behind clause list once going_comes);
              seen = λ c i.
                  let there : IsIn c (without clause list) = subst (IsIn c) off i in
                  let differs : c ≢ clause = λ e. not_in_without clause list once
                  (subst (λ (n : ℕ). IsIn n (without clause list)) e there) in
                  rw (on, off) (goes_off c differs (g.seen c (in_without clause c list there)));
            }
