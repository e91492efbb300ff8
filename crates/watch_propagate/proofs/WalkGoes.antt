-- Steps of a walk one after another, and a literal that is implied.
use Rattle.std.proofs.Common.{◌≡◌, ◌⊎◌, ◌<◌, ◌≤◌, ◌+◌, ◌∙◌, ℕ, zero, suc, List, [], ◌∷◌, ◌++◌, Some, Contains, length, map, take, slice_get, refl, sym, ap, subst, inl, inr, append_assoc, arith}
use Rattle.std.proofs.lemmas.Bool.{cases_lt}
use Rattle.std.proofs.lemmas.List.{append-nil, length-append, length-map, map-append, take-append-le, take_at}
use Rattle.std.proofs.lemmas.List.Elements.{Contains-append_left, Contains-push}
use Rattle.std.proofs.lemmas.Option.{same_Some, slice_get-get_or, slice_get_within}
use Rattle.currency_base.specs.Literals.{negation}
use Rattle.currency_base.specs.declared.lit.Lit.{Lit}
use Rattle.clause_arena.specs.Arenas.{Arena}
use Rattle.search_trail.specs.Trails.{AreEntries, Entry, IsReason, Trail, implied, lits_of}
use Rattle.watch_propagate.specs.WatchRule.{AreGuarded, AreReordered, AreSameLits, Implies, IsGuarded, IsImplied, IsRewatched, KeepsWatch, lits_before}
use Rattle.watch_propagate.specs.Walks.{GoesOn, IsSeenTo}

-- ---- watches

same_lits : (xs : List Lit) → AreSameLits xs xs
same_lits xs = record { none_lost = λ l c. c; none_new = λ l c. c; as_many = refl }

same_lits_on : (xs ys zs : List Lit) → AreSameLits xs ys → AreSameLits ys zs → AreSameLits xs zs
same_lits_on xs ys zs s r =
    record {
      none_lost = λ l c. r.none_lost l (s.none_lost l c);
      none_new = λ l c. s.none_new l (r.none_new l c);
      as_many = r.as_many ∙ s.as_many;
    }

pub rewatched_same : (a : Arena) → IsRewatched a a
rewatched_same a =
    record {
      clauses = record {
        as_many = refl;
        same = λ c xs ys is is'. subst (λ (zs : List Lit). AreSameLits xs zs) (same_Some xs ys (sym is ∙ is')) (same_lits xs);
      };
      still = λ c w. w;
      no_more = λ c w. w;
      lists = refl;
      clauses_left = refl;
      lits_left = refl;
    }

reordered_on : (xs ys zs : List (List Lit)) → AreReordered xs ys → AreReordered ys zs → AreReordered xs zs
reordered_on xs ys zs r s =
    record {
      as_many = s.as_many ∙ r.as_many;
      same = λ c before behind is is'.
          let between = slice_get-get_or ys c [] (omega (arith, slice_get_within xs c before is, r.as_many)) in
          same_lits_on before _ behind (r.same c before _ is between) (s.same c _ behind between is');
    }

pub rewatched_on : (a b c : Arena) → IsRewatched a b → IsRewatched b c → IsRewatched a c
rewatched_on a b c r s =
    record {
      clauses = reordered_on a.clauses b.clauses c.clauses r.clauses s.clauses;
      still = λ n w. s.still n (r.still n w);
      no_more = λ n w. r.no_more n (s.no_more n w);
      lists = s.lists ∙ r.lists;
      clauses_left = s.clauses_left ∙ r.clauses_left;
      lits_left = s.lits_left ∙ r.lits_left;
    }

-- ---- entries

get_left : {A : Type 0} (xs ys : List A) (k : ℕ) → k < length xs → slice_get (xs ++ ys) k ≡ slice_get xs k
get_left [] ys k h = absurd (omega arith)
get_left (x ∷ xs) ys zero h = refl
get_left (x ∷ xs) ys (suc k) h = get_left xs ys k (omega arith)

get_last : {A : Type 0} (xs : List A) (x : A) → slice_get (xs ++ x ∷ []) (length xs) ≡ Some x
get_last [] x = refl
get_last (y ∷ ys) x = get_last ys x

before_same : (es more : List Entry) (place : ℕ) → place ≤ length es → lits_before (es ++ more) place ≡ lits_before es place
before_same es more place h = ap (map (λ (e : Entry). e.lit)) (take-append-le place es more h)

pub implies_same : (a : Arena) (t : Trail) → Implies a t t
implies_same a t =
    record {
      vars = refl;
      scope = refl;
      starts = refl;
      gone = omega arith;
      added = [];
      entries = sym (append-nil t.entries);
      implied = λ place e h is. absurd (omega (arith, h, slice_get_within t.entries place e is));
    }

-- an entry that was implied still is, where watches are moved and entries follow
implied_still : (a b : Arena) (es more : List Entry) (place : ℕ) (e : Entry) → IsRewatched a b → place < length es
    → IsImplied a es place e → IsImplied b (es ++ more) place e
implied_still a b es more place e r h i =
    let old = i.by_clause in
    let there = slice_get-get_or b.clauses i.clause []
    (omega (arith, slice_get_within a.clauses i.clause old.lits old.is_clause, r.clauses.as_many)) in
    let same = r.clauses.same i.clause old.lits _ old.is_clause there in
    let before : lits_before (es ++ more) place ≡ lits_before es place = before_same es more place (omega (arith, h)) in
    record {
      clause = i.clause;
      is_reason = i.is_reason;
      by_clause = record {
        lits = _;
        is_clause = there;
        is_reason = record {
          is_in = same.none_lost e.lit old.is_reason.is_in;
          others = λ other c d.
              subst (λ (ls : List Lit). Contains ls (negation other)) (sym before)
              (old.is_reason.others other (same.none_new other c) d);
        };
      };
    }

pub implies_on : (a b : Arena) (t u v : Trail) → IsRewatched a b → Implies a t u → Implies b u v → Implies b t v
implies_on a b t u v r i j =
    record {
      vars = j.vars ∙ i.vars;
      scope = j.scope ∙ i.scope;
      starts = j.starts ∙ i.starts;
      gone = omega (arith, i.gone, j.gone);
      added = i.added ++ j.added;
      entries = j.entries ∙ ap (λ (es : List Entry). es ++ j.added) i.entries ∙ append_assoc t.entries i.added j.added;
      implied = λ place e h is. go place e h is (cases_lt place (length u.entries));
    }
  where
    go : (place : ℕ) (e : Entry) → length t.entries ≤ place → slice_get v.entries place ≡ Some e →
        (place < length u.entries) ⊎ (length u.entries ≤ place) → IsImplied b v.entries place e
    go place e h is (inl low) =
        let was : slice_get u.entries place ≡ Some e =
        sym (get_left u.entries j.added place low) ∙ ap (λ (es : List Entry). slice_get es place) (sym j.entries) ∙ is in
        subst (λ (es : List Entry). IsImplied b es place e) (sym j.entries)
        (implied_still a b u.entries j.added place e r low (i.implied place e h was))
    go place e h is (inr high) = j.implied place e high is

-- a literal that is true stays where it is
pub lit_stays : (a : Arena) (t u : Trail) (k : ℕ) (l : Lit) → Implies a t u → slice_get (lits_of t) k ≡ Some l
    → slice_get (lits_of u) k ≡ Some l
lit_stays a t u k l i is =
    let are : lits_of u ≡ lits_of t ++ map (λ (e : Entry). e.lit) i.added =
    ap (map (λ (e : Entry). e.lit)) i.entries ∙ map-append (λ (e : Entry). e.lit) t.entries i.added in
    ap (λ (ls : List Lit). slice_get ls k) are
    ∙ get_left (lits_of t) (map (λ (e : Entry). e.lit) i.added) k (slice_get_within (lits_of t) k l is) ∙ is

-- ---- one step after another

pub goes_same : (a : Arena) (t : Trail) → KeepsWatch a t → GoesOn a a t t
goes_same a t rule = record { rewatched = rewatched_same a; implies = implies_same a t; gone = refl; rule = rule }

pub goes_on : (a b c : Arena) (t u v : Trail) → GoesOn a b t u → GoesOn b c u v → GoesOn a c t v
goes_on a b c t u v g h =
    record {
      rewatched = rewatched_on a b c g.rewatched h.rewatched;
      implies = implies_on b c t u v h.rewatched g.implies h.implies;
      gone = h.gone ∙ g.gone;
      rule = h.rule;
    }

pub seen_grows : (a : Arena) (t u : Trail) (lit : Lit) (clause : ℕ) →
    ((l : Lit) → Contains (lits_of t) l → Contains (lits_of u) l) → IsSeenTo a t lit clause → IsSeenTo a u lit clause
seen_grows a t u lit clause grows s =
    record { first = λ w e. grows w.second (s.first w e); second = λ w e. grows w.first (s.second w e) }

-- ---- a literal is implied

module _ (a : Arena) (t : Trail) (lit : Lit) (clause : ℕ) where
  abbrev entry : Entry
  entry = record { lit = lit; reason = Some clause }

  lits_more : lits_of (implied t lit clause) ≡ lits_of t ++ lit ∷ []
  lits_more = map-append (λ (e : Entry). e.lit) t.entries (entry ∷ [])

  pub implied_grows : (l : Lit) → Contains (lits_of t) l → Contains (lits_of (implied t lit clause)) l
  implied_grows l c = subst (λ (ls : List Lit). Contains ls l) (sym lits_more) (Contains-append_left (lits_of t) (lit ∷ []) l c)

  pub implies_more : (lits : List Lit) → slice_get a.clauses clause ≡ Some lits → IsReason lits (lits_of t) lit
      → Implies a t (implied t lit clause)
  implies_more lits is_clause reason =
      record {
        vars = refl;
        scope = refl;
        starts = refl;
        gone = omega arith;
        added = entry ∷ [];
        entries = refl;
        implied = λ place e h is. go place e is (last place e h is);
      }
    where
      last : (place : ℕ) (e : Entry) → length t.entries ≤ place → slice_get (t.entries ++ entry ∷ []) place ≡ Some e
          → place ≡ length t.entries
      last place e h is =
          let long : length (t.entries ++ entry ∷ []) ≡ length t.entries + 1 = length-append t.entries (entry ∷ []) in
          omega (arith, h, long, slice_get_within (t.entries ++ entry ∷ []) place e is)

      before : lits_before (t.entries ++ entry ∷ []) (length t.entries) ≡ lits_of t
      before = ap (map (λ (e : Entry). e.lit)) (take_at t.entries (entry ∷ []) (length t.entries) refl)

      here : IsImplied a (t.entries ++ entry ∷ []) (length t.entries) entry
      here =
          record {
            clause = clause;
            is_reason = refl;
            by_clause = record {
              lits = lits;
              is_clause = is_clause;
              is_reason =
                  subst (λ (ls : List Lit). IsReason lits ls lit) (sym before) reason;
            };
          }

      go : (place : ℕ) (e : Entry) → slice_get (t.entries ++ entry ∷ []) place ≡ Some e → place ≡ length t.entries
          → IsImplied a (t.entries ++ entry ∷ []) place e
      go place e is at =
          let same : entry ≡ e = same_Some entry e (sym (get_last t.entries entry)
          ∙ ap (slice_get (t.entries ++ entry ∷ [])) (sym at) ∙ is) in
          subst (λ (k : ℕ). IsImplied a (t.entries ++ entry ∷ []) k e) (sym at)
          (subst (λ (d : Entry). IsImplied a (t.entries ++ entry ∷ []) (length t.entries) d) same here)

  -- the first literals are the same
  first_lits : (n : ℕ) → n ≤ length t.entries → take n (lits_of (implied t lit clause)) ≡ take n (lits_of t)
  first_lits n h =
      ap (take n) lits_more ∙ take-append-le n (lits_of t) (lit ∷ [])
      (omega (arith, h, length-map t.entries (λ (e : Entry). e.lit)))

  pub implied_rule : AreEntries t → KeepsWatch a t → KeepsWatch a (implied t lit clause)
  implied_rule are rule = record { passed = rule.passed; guarded = λ c w. guards w.first w.second (rule.guarded c w) }
    where
      present : (first second : Lit) → IsGuarded (take t.gone (lits_of t)) (lits_of t) first second
          → IsGuarded (take t.gone (lits_of (implied t lit clause))) (lits_of (implied t lit clause)) first second
      present first second g =
          rw (first_lits t.gone are.gone)
          (record {
            first_false = λ c. implied_grows second (g.first_false c);
            second_false = λ c. implied_grows
                first (g.second_false c);
          })

      guards : (first second : Lit) → AreGuarded t first second → AreGuarded (implied t lit clause) first second
      guards first second g =
          record {
            at_present = present first second g.at_present;
            at_starts = λ i start is.
                subst (λ (ls : List Lit). IsGuarded ls ls first second)
                (sym (first_lits start (omega (arith, are.begun i start is)))) (g.at_starts i start is);
          }

-- the literal is true then
pub implied_has : (t : Trail) (lit : Lit) (clause : ℕ) → Contains (lits_of (implied t lit clause)) lit
implied_has t lit clause =
    subst (λ (ls : List Lit). Contains ls lit)
    (sym (map-append (λ (e : Entry). e.lit) t.entries (record { lit = lit; reason = Some clause } ∷ [])))
    (Contains-push (lits_of t) lit)
