-- The same literals, the same clauses but for the order of their literals, and entries that were implied, step after step.
use Rattle.std.proofs.Common.{◌≡◌, ◌⊎◌, ◌<◌, ◌≤◌, ◌∙◌, ℕ, List, [], ◌++◌, Some, length, map, slice_get, refl, sym, ap, subst, inl, inr, arith}
use Rattle.std.proofs.lemmas.Bool.{cases_lt}
use Rattle.std.proofs.lemmas.List.{append-nil, append_assoc, take-append-le}
use Rattle.std.proofs.lemmas.Option.{slice_get_within, slice_get-get_or}
use Rattle.currency_base.specs.declared.lit.Lit.{Lit}
use Rattle.clause_arena.specs.Arenas.{Arena}
use Rattle.search_trail.specs.Trails.{Entry, IsReason, Trail}
use Rattle.refutation_log.specs.Counted.{HasTrue, HasTwoFree, IsAtRest, IsUnit}
use Rattle.watch_propagate.specs.WatchRule.{AreReordered, AreSameLits, HasReason, IsImplied, IsRewatched, Implies, lits_before}
use Rattle.watch_propagate.proofs.KeptLists.{get_front, same_get}

-- ---- the same literals

pub same_itself : (xs : List Lit) → AreSameLits xs xs
same_itself xs = record { none_lost = λ lit c. c; none_new = λ lit c. c; as_many = refl }

pub same_then : (xs ys zs : List Lit) → AreSameLits xs ys → AreSameLits ys zs → AreSameLits xs zs
same_then xs ys zs one other =
    record {
      none_lost = λ lit c. other.none_lost lit (one.none_lost lit c);
      none_new = λ lit c. one.none_new lit (other.none_new lit c);
      as_many = other.as_many ∙ one.as_many;
    }

pub same_back : (xs ys : List Lit) → AreSameLits xs ys → AreSameLits ys xs
same_back xs ys same = record { none_lost = same.none_new; none_new = same.none_lost; as_many = sym same.as_many }

pub has_true_same : (truths xs ys : List Lit) → AreSameLits xs ys → HasTrue truths xs → HasTrue truths ys
has_true_same truths xs ys same h = record { lit = h.lit; is_in = same.none_lost h.lit h.is_in; is_true = h.is_true }

pub two_free_same : (truths xs ys : List Lit) → AreSameLits xs ys → HasTwoFree truths xs → HasTwoFree truths ys
two_free_same truths xs ys same h =
    record {
      first = h.first;
      second = h.second;
      differ = h.differ;
      first_in = same.none_lost h.first h.first_in;
      second_in = same.none_lost h.second h.second_in;
      first_open = h.first_open;
      second_open = h.second_open;
    }

-- whether unit propagation is at rest on a clause hangs on its literals alone
pub at_rest_same : (truths xs ys : List Lit) → AreSameLits xs ys → IsAtRest truths xs → IsAtRest truths ys
at_rest_same truths xs ys same (inl h) = inl (has_true_same truths xs ys same h)
at_rest_same truths xs ys same (inr h) = inr (two_free_same truths xs ys same h)

pub unit_same : (truths xs ys : List Lit) (lit : Lit) → AreSameLits xs ys → IsUnit truths xs lit → IsUnit truths ys lit
unit_same truths xs ys lit same u =
    record {
      is_in = same.none_lost lit u.is_in;
      is_open = u.is_open;
      others = λ other c differs. u.others other (same.none_new other c) differs;
    }

pub reason_same : (xs ys earlier : List Lit) (lit : Lit) → AreSameLits xs ys → IsReason xs earlier lit → IsReason ys earlier lit
reason_same xs ys earlier lit same r =
    record { is_in = same.none_lost lit r.is_in; others = λ other c differs. r.others other (same.none_new other c) differs }

-- ---- the same clauses

pub reordered_itself : (clauses : List (List Lit)) → AreReordered clauses clauses
reordered_itself clauses =
    record {
      as_many = refl;
      same = λ clause xs ys one other. subst (AreSameLits xs) (same_get clauses clause xs ys one other) (same_itself xs);
    }

-- the clause of a number in as many clauses
pub clause_there : (old new : List (List Lit)) (clause : ℕ) (xs : List Lit) → length new ≡ length old
    → slice_get old clause ≡ Some xs
    → (ys : List Lit) × (slice_get new clause ≡ Some ys)
clause_there old new clause xs as_many is =
    (_, slice_get-get_or new clause xs (omega (arith, as_many, slice_get_within old clause xs is)))

pub reordered_then : (old middle new : List (List Lit)) → AreReordered old middle → AreReordered middle new → AreReordered old new
reordered_then old middle new one other =
    record {
      as_many = other.as_many ∙ one.as_many;
      same = λ clause xs zs before after.
          let between = clause_there old middle clause xs one.as_many before in
          same_then xs between.0 zs (one.same clause xs between.0 before between.1)
          (other.same clause between.0 zs between.1 after);
    }

pub rewatched_itself : (a : Arena) → IsRewatched a a
rewatched_itself a =
    record {
      clauses = reordered_itself a.clauses;
      still = λ clause w. w;
      no_more = λ clause w. w;
      lists = refl;
      clauses_left = refl;
      lits_left = refl;
    }

pub rewatched_then : (old middle new : Arena) → IsRewatched old middle → IsRewatched middle new → IsRewatched old new
rewatched_then old middle new one other =
    record {
      clauses = reordered_then old.clauses middle.clauses new.clauses one.clauses other.clauses;
      still = λ clause w. other.still clause (one.still clause w);
      no_more = λ clause w. one.no_more clause (other.no_more clause w);
      lists = other.lists ∙ one.lists;
      clauses_left = other.clauses_left ∙ one.clauses_left;
      lits_left = other.lits_left ∙ one.lits_left;
    }

-- a clause that was a literal's reason is one still
pub has_reason_rewatched : (old new : Arena) (earlier : List Lit) (lit : Lit) (clause : ℕ) → IsRewatched old new
    → HasReason old earlier lit clause
    → HasReason new earlier lit clause
has_reason_rewatched old new earlier lit clause re r =
    let there = clause_there old.clauses new.clauses clause r.lits re.clauses.as_many r.is_clause in
    record {
      lits = there.0;
      is_clause = there.1;
      is_reason = reason_same r.lits there.0 earlier lit (re.clauses.same clause r.lits there.0 r.is_clause there.1) r.is_reason;
    }

-- ---- entries that were implied

pub implies_itself : (a : Arena) (t : Trail) → Implies a t t
implies_itself a t =
    record {
      vars = refl;
      scope = refl;
      starts = refl;
      gone = omega arith;
      added = [];
      entries = sym (append-nil t.entries);
      implied = λ place e h is. absurd (omega (arith, h, slice_get_within t.entries place e is));
    }

-- the literals before a place are the same, where there is more behind
pub lits_before_more : (entries added : List Entry) (place : ℕ) → place ≤ length entries → lits_before
    (entries ++ added) place ≡ lits_before entries place
lits_before_more entries added place h = ap (map (λ (e : Entry). e.lit)) (take-append-le place entries added h)

pub implied_more : (a : Arena) (entries added : List Entry) (place : ℕ) (e : Entry) → place ≤ length entries
    → IsImplied a entries place e
    → IsImplied a (entries ++ added) place e
implied_more a entries added place e h i =
    record {
      clause = i.clause;
      is_reason = i.is_reason;
      by_clause = subst (λ (ls : List Lit). HasReason a ls e.lit i.clause)
          (sym (lits_before_more entries added place h)) i.by_clause;
    }

pub implied_rewatched : (old new : Arena) (entries : List Entry) (place : ℕ) (e : Entry) → IsRewatched old new
    → IsImplied old entries place e
    → IsImplied new entries place e
implied_rewatched old new entries place e re i =
    record {
      clause = i.clause;
      is_reason = i.is_reason;
      by_clause = has_reason_rewatched old new (lits_before entries place) e.lit i.clause re i.by_clause;
    }

-- implied entries stay so where literals of clauses change places
pub implies_rewatched : (old new : Arena) (was is : Trail) → IsRewatched old new → Implies old was is → Implies new was is
implies_rewatched old new was is re i =
    record {
      vars = i.vars;
      scope = i.scope;
      starts = i.starts;
      gone = i.gone;
      added = i.added;
      entries = i.entries;
      implied = λ place e h at. implied_rewatched old new is.entries place e re (i.implied place e h at);
    }

pub implies_then : (a : Arena) (old middle new : Trail) → Implies a old middle → Implies a middle new → Implies a old new
implies_then a old middle new one other =
    record {
      vars = other.vars ∙ one.vars;
      scope = other.scope ∙ one.scope;
      starts = other.starts ∙ one.starts;
      gone = omega (arith, one.gone, other.gone);
      added = one.added ++ other.added;
      entries = other.entries ∙ ap (λ (es : List Entry). es ++ other.added) one.entries ∙ append_assoc old.entries
          one.added other.added;
      implied = λ place e h is. go place e h is (cases_lt place (length middle.entries));
    }
  where
    go : (place : ℕ) (e : Entry) → length old.entries ≤ place → slice_get new.entries place ≡ Some e
        → (place < length middle.entries) ⊎ (length middle.entries ≤ place) → IsImplied a new.entries place e
    go place e h is (inl below) =
        let there : slice_get middle.entries place ≡ Some e =
        get_front middle.entries other.added place e below (ap (λ (es : List Entry). slice_get es place)
        (sym other.entries) ∙ is) in
        subst (λ (es : List Entry). IsImplied a es place e) (sym other.entries)
        (implied_more a middle.entries other.added place e (omega (arith, below)) (one.implied place e h there))
    go place e h is (inr above) = other.implied place e above is
