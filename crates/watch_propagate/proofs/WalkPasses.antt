-- An entry has been gone through, and the end of all entries.
use Rattle.std.proofs.Common.{◌≡◌, ◌⊎◌, ◌+◌, ◌-◌, ◌<◌, ◌≤◌, ◌∙◌, ℕ, zero, suc, true, false, eqb, List, [], ◌∷◌, ◌++◌, Option, Some, None, Contains, length, map, take, slice_get, refl, sym, ap, subst, inl, inr, arith}
use Rattle.std.specs.List.{list_any, IsDistinct, AllByRecursion}
use Rattle.std.specs.Option.{option_map}
use Rattle.std.proofs.lemmas.Bool.{cases_lt, ne_eqb, eqb-true, or_cases}
use Rattle.std.proofs.lemmas.List.{length-map, take_more}
use Rattle.std.proofs.lemmas.List.Elements.{Contains-push_cases}
use Rattle.std.proofs.lemmas.Map.Steps.{length-le_from_distinct_below}
use Rattle.std.proofs.lemmas.Option.{same_Some, none-some, slice_get-get_or, slice_get-map, slice_get_within, get_or_from_slice_get}
use Rattle.currency_base.specs.Lists.{OnlyOnce}
use Rattle.currency_base.specs.Literals.{negation, var_of}
use Rattle.currency_base.specs.declared.lit.Lit.{Lit}
use Rattle.watch_links.specs.Links.{IsIn}
use Rattle.clause_arena.specs.Arenas.{Arena, IsWatched, watchers_of}
use Rattle.search_trail.specs.Trails.{AreEntries, Entry, Trail, lits_of, passed}
use Rattle.watch_propagate.specs.WatchRule.{AreGuarded, Implies, KeepsWatch}
use Rattle.watch_propagate.specs.Walks.{GoesOn, IsPending, IsSeenTo}
use Rattle.watch_propagate.proofs.WalkLits.{negation_twice, negation_var, same_negation}
use Rattle.watch_propagate.proofs.WalkGoes.{lit_stays}
use Rattle.watch_propagate.proofs.WalkItems.{all_at}

-- ---- entries are no more than variables

not_later : (x : ℕ) (xs : List ℕ) → ((k : ℕ) → slice_get xs k ≡ Some x → ⊥) → AllByRecursion (λ y. eqb x y ≡ false) xs
not_later x [] out = tt
not_later x (y ∷ ys) out = (ne_eqb x y (λ e. out zero (ap Some (sym e))), not_later x ys (λ k is. out (suc k) is))

distinct : (xs : List ℕ) → OnlyOnce xs → IsDistinct eqb xs
unfolding IsDistinct
distinct [] once = tt
distinct (x ∷ xs) once = (
  not_later x xs (λ k is. apart k (once zero (suc k) x refl is)),
  distinct xs (λ i j y a b. later i j (once (suc i) (suc j) y a b)),
)
  where
    apart : (k : ℕ) → zero ≡ suc k → ⊥
    apart k e = omega (arith, e)

    later : (i j : ℕ) → suc i ≡ suc j → i ≡ j
    later i j e = omega (arith, e)

below : (n q : ℕ) (xs : List ℕ) → ((k x : ℕ) → slice_get xs k ≡ Some x → x < n) → list_any (eqb q) xs ≡ true → q < n
below n q [] all is = absurd (cc)
below n q (x ∷ xs) all is = go (λ h. below n q xs (λ k y at. all (suc k) y at) h) (or_cases (eqb q x) (list_any (eqb q) xs) is)
  where
    go : (list_any (eqb q) xs ≡ true → q < n) → (eqb q x ≡ true) ⊎ (list_any (eqb q) xs ≡ true) → q < n
    go more (inl h) = subst (λ v. v < n) (sym (eqb-true q x h)) (all zero x refl)
    go more (inr h) = more h

-- the entry at a place where there is a variable, and where there is a literal
pub entry_by : {B : Type 0} (f : Entry → B) (es : List Entry) (k : ℕ) (x : B) → slice_get (map f es) k ≡ Some x →
    (e : Entry) × (slice_get es k ≡ Some e) × (f e ≡ x)
entry_by f es k x is = by (slice_get es k) refl
  where
    by : (o : Option Entry) → slice_get es k ≡ o → (e : Entry) × (slice_get es k ≡ Some e) × (f e ≡ x)
    by None none =
        let there : slice_get (map f es) k ≡ None = slice_get-map f es k ∙ ap (option_map f) none in
        absurd (none-some x (sym there ∙ is))
    by (Some e) some =
        let there : slice_get (map f es) k ≡ Some (f e) = slice_get-map f es k ∙ ap (option_map f) some in
        (e, some, same_Some (f e) x (sym there ∙ is))

pub few_entries : (t : Trail) → AreEntries t → length t.entries ≤ t.vars
few_entries t are =
    let vars = map (λ (e : Entry). var_of e.lit) t.entries in
    let within : (k x : ℕ) → slice_get vars k ≡ Some x → x < t.vars =
    λ k x is.
    let at = entry_by (λ (e : Entry). var_of e.lit) t.entries k x is in
    subst (λ v. v < t.vars) at.2 (all_at (λ (e : Entry). var_of e.lit < t.vars) t.entries k at.0 are.within at.1) in
    omega (
      arith,
      length-le_from_distinct_below vars t.vars (distinct vars are.once)
          (λ q any. below t.vars q vars within any),
      length-map t.entries (λ (e : Entry). var_of e.lit),
    )

-- a literal that is true is of one of the variables
pub true_var : (t : Trail) (k : ℕ) (lit : Lit) → AreEntries t → slice_get (lits_of t) k ≡ Some lit → var_of lit < t.vars
true_var t k lit are is =
    let at = entry_by (λ (e : Entry). e.lit) t.entries k lit is in
    subst (λ (l : Lit). var_of l < t.vars) at.2 (all_at (λ (e : Entry). var_of e.lit < t.vars) t.entries k at.0 are.within at.1)

pub pending_within : (t : Trail) (k : ℕ) (lit : Lit) → slice_get (lits_of t) k ≡ Some lit → k < length t.entries
pending_within t k lit is = omega (arith, slice_get_within (lits_of t) k lit is, length-map t.entries (λ (e : Entry). e.lit))

-- a literal that has become false is pending, and still is when its clauses have been looked at
pub is_pending : (t : Trail) (lit l : Lit) → l ≡ negation lit → slice_get (lits_of t) t.gone ≡ Some lit → IsPending t l
is_pending t lit l e is = is ∙ ap Some (sym (ap negation e ∙ negation_twice lit))

pub still_pending : (a b : Arena) (t u : Trail) (lit : Lit) → GoesOn a b t u → IsPending t lit → IsPending u lit
still_pending a b t u lit g pending =
    subst (λ (k : ℕ). slice_get (lits_of u) k ≡ Some (negation lit)) (sym g.gone)
    (lit_stays b t u t.gone (negation lit) g.implies pending)

pub pending_var : (t : Trail) (lit l : Lit) → AreEntries t → l ≡ negation lit → slice_get (lits_of t) t.gone ≡ Some
    lit → var_of l < t.vars
pending_var t lit l are e is = omega (arith, ap var_of e, negation_var lit, true_var t t.gone lit are is)

-- fewer entries are left
pub fewer_left : (a b : Arena) (t u v : Trail) (lit : Lit) → AreEntries t → GoesOn a b t u → v ≡ passed u
    → slice_get (lits_of t) t.gone ≡ Some lit → v.vars - v.gone < t.vars - t.gone
fewer_left a b t u v lit are g is pending =
    rw is (omega (arith, g.implies.vars, g.gone, few_entries t are, pending_within t t.gone lit pending))

-- ---- one more entry has been gone through

pub implies_passed : (a : Arena) (was t : Trail) → Implies a was t → Implies a was (passed t)
implies_passed a was t i =
    record {
      vars = i.vars;
      scope = i.scope;
      starts = i.starts;
      gone = omega (arith, i.gone);
      added = i.added;
      entries = i.entries;
      implied = i.implied;
    }

module _ (a : Arena) (t : Trail) (lit : Lit) (rule : KeepsWatch a t) (pending : IsPending t lit)
    (seen : (clause : ℕ) → IsIn clause (watchers_of a lit) → IsSeenTo a t lit clause) where
  one_more : take (t.gone + 1) (lits_of t) ≡ take t.gone (lits_of t) ++ negation lit ∷ []
  one_more =
      take_more (lits_of t) t.gone lit (slice_get_within (lits_of t) t.gone (negation lit) pending)
      ∙ ap (λ (l : Lit). take t.gone (lits_of t) ++ l ∷ []) (get_or_from_slice_get (lits_of t) t.gone (negation lit) lit pending)

  found : (l : Lit) → Contains (take (t.gone + 1) (lits_of t)) (negation l) → Contains (take t.gone (lits_of t))
      (negation l) ⊎ (l ≡ lit)
  found l c = go (Contains-push_cases (take t.gone (lits_of t)) (negation lit) (negation l)
      (subst (λ (ls : List Lit). Contains ls (negation l)) one_more c))
    where
      go : Contains (take t.gone (lits_of t)) (negation l) ⊎ (negation lit ≡ negation l)
          → Contains (take t.gone (lits_of t)) (negation l) ⊎ (l ≡ lit)
      go (inl i) = inl i
      go (inr e) = inr (same_negation l lit (sym e))

  pub passed_rule : KeepsWatch a (passed t)
  passed_rule = record {
    passed = λ i start is. omega (arith, rule.passed i start is);
    guarded = λ clause w. guards
        clause w (rule.guarded clause w);
  }
    where
      by_first : (clause : ℕ) (w : IsWatched a clause) → w.first ≡ lit → Contains (lits_of t) w.second
      by_first clause w e = (seen clause (subst (λ (l : Lit). IsIn clause (watchers_of a l)) e w.by_first)).first w e

      by_second : (clause : ℕ) (w : IsWatched a clause) → w.second ≡ lit → Contains (lits_of t) w.first
      by_second clause w e = (seen clause (subst (λ (l : Lit). IsIn clause (watchers_of a l)) e w.by_second)).second w e

      either : {P Q R : Type 0} → (P → R) → (Q → R) → P ⊎ Q → R
      either f g (inl p) = f p
      either f g (inr q) = g q

      guards : (clause : ℕ) (w : IsWatched a clause) → AreGuarded t w.first w.second → AreGuarded (passed t) w.first w.second
      guards clause w g =
          record {
            at_present = record {
              first_false = λ c. either g.at_present.first_false (by_first clause w) (found w.first c);
              second_false = λ c. either g.at_present.second_false (by_second clause w) (found w.second c);
            };
            at_starts = g.at_starts;
          }

-- ---- no entry is left

lit_zero : Lit
lit_zero = record { 0 = 0 }

pub all_gone : (t : Trail) → AreEntries t → slice_get (lits_of t) t.gone ≡ None → t.gone ≡ length t.entries
all_gone t are none = go (cases_lt t.gone (length (lits_of t)))
  where
    go : (t.gone < length (lits_of t)) ⊎ (length (lits_of t) ≤ t.gone) → t.gone ≡ length t.entries
    go (inl h) =
        let there = slice_get-get_or (lits_of t) t.gone (lit_zero) h in
        absurd (none-some _ (sym none ∙ there))
    go (inr h) = omega (arith, h, are.gone, length-map t.entries (λ (e : Entry). e.lit))
