-- Hints of which each adds a literal, and one that is false then.
use Rattle.std.proofs.Common.{◌≡◌, ◌<◌, ℕ, List, [], ◌∷◌, ◌++◌, Contains, get_or, length, sym, ap, subst, inr, ⊎_elim}
use Rattle.std.proofs.lemmas.List.{map-append, same_from_push}
use Rattle.std.proofs.lemmas.List.Elements.{Contains-push_cases, Contains-get_or}
use Rattle.currency_base.specs.Lists.{OnlyOnce}
use Rattle.currency_base.specs.Literals.{negation}
use Rattle.currency_base.specs.declared.lit.Lit.{Lit}
use Rattle.refutation_log.specs.Follows.{AreFalse, Falsifies, FollowsFrom, clause_at, clauses_at}
use Rattle.lean_hints.specs.Lean.{AreLean, EachAdds, IsAdding}

-- going through the clauses, each adds a literal, and in the end these are false
abbrev pub AddTo : List Lit → List (List Lit) → List Lit → Type 0
AddTo falses [] all = falses ≡ all
AddTo falses (clause ∷ clauses) all =
    (lit : Lit) × IsAdding falses clause lit × AddTo (falses ++ negation lit ∷ []) clauses all

-- ---- one clause more

with_open : (start : List Lit) (clauses : List (List Lit)) (clause falses : List Lit) (lit : Lit)
    → AddTo start clauses falses → IsAdding falses clause lit
    → AddTo start (clauses ++ clause ∷ []) (falses ++ negation lit ∷ [])
with_open start [] clause falses lit same only = (
  lit,
  subst (λ (f : List Lit). IsAdding f clause lit) (sym same) only,
  ap (λ (f : List Lit). f ++ negation lit ∷ []) same,
)
with_open start (c ∷ clauses) clause falses lit h only =
    (h.0, h.1, with_open (start ++ negation h.0 ∷ []) clauses clause falses lit h.2 only)

-- by hints
pub hint_open : (earlier : List (List Lit)) (start falses : List Lit) (hints : List ℕ) (hint : ℕ) (lit : Lit)
    → AddTo start (clauses_at earlier hints) falses → IsAdding falses (clause_at earlier hint) lit
    → AddTo start (clauses_at earlier (hints ++ hint ∷ [])) (falses ++ negation lit ∷ [])
hint_open earlier start falses hints hint lit were only =
    subst (λ (cs : List (List Lit)). AddTo start cs (falses ++ negation lit ∷ []))
    (sym (map-append (clause_at earlier) hints (hint ∷ [])))
    (with_open start (clauses_at earlier hints) (clause_at earlier hint) falses lit were only)

-- ---- all of them

falsify : (start : List Lit) (clauses : List (List Lit)) (falses : List Lit) → AddTo start clauses falses
    → Falsifies start clauses falses
falsify start [] falses same = same
falsify start (clause ∷ clauses) falses h = inr (h.0, h.1.only_open, falsify (start ++ negation h.0 ∷ []) clauses falses h.2)

each_adds : (start : List Lit) (clauses : List (List Lit)) (falses : List Lit) → AddTo start clauses falses
    → EachAdds start clauses
each_adds start [] falses same = tt
each_adds start (clause ∷ clauses) falses h = (h.0, h.1, each_adds (start ++ negation h.0 ∷ []) clauses falses h.2)

-- a clause follows where the last hint is false
pub follows_with : (earlier : List (List Lit)) (clause falses : List Lit) (hints : List ℕ) (hint : ℕ)
    → ((x : ℕ) → Contains hints x → x < length earlier) → hint < length earlier
    → AddTo clause (clauses_at earlier hints) falses → AreFalse falses (clause_at earlier hint)
    → FollowsFrom earlier clause (hints ++ hint ∷ [])
follows_with earlier clause falses hints hint known last_known add conflict = record {
  known = λ k d h. ⊎_elim
      (λ (p : Contains hints (get_or (hints ++ hint ∷ []) k d)). known (get_or (hints ++ hint ∷ []) k d) p)
      (λ (p : hint ≡ get_or (hints ++ hint ∷ []) k d). subst (λ (x : ℕ). x < length earlier) p last_known)
      (Contains-push_cases hints hint (get_or (hints ++ hint ∷ []) k d) (Contains-get_or (hints ++ hint ∷ []) k d h));
  follows = record {
    front = clauses_at earlier hints;
    last = clause_at earlier hint;
    hints_are = map-append (clause_at earlier) hints (hint ∷ []);
    falses = falses;
    falsified = falsify clause (clauses_at earlier hints) falses add;
    conflict = conflict;
  };
}

-- and none but the last is idle
pub lean_with : (earlier : List (List Lit)) (clause falses : List Lit) (hints : List ℕ) (hint : ℕ)
    → OnlyOnce (hints ++ hint ∷ []) → AddTo clause (clauses_at earlier hints) falses
    → AreLean earlier clause (hints ++ hint ∷ [])
lean_with earlier clause falses hints hint once add = record {
  once = once;
  adds = λ front last same. subst (λ (hs : List ℕ). EachAdds clause (clauses_at earlier hs))
      (same_from_push hints front hint last same).0 (each_adds clause (clauses_at earlier hints) falses add);
}
