-- Under the watch rule unit propagation is at rest on each watched clause.
use Rattle.std.proofs.Common.{◌≡◌, ◌≢◌, ◌⊎◌, ◌∙◌, ℕ, List, Some, Contains, length, take, slice_get, ap, subst, inl, inr, arith}
use Rattle.std.proofs.lemmas.Bool.{cases_eq}
use Rattle.std.proofs.lemmas.List.{length-map, take_all}
use Rattle.std.proofs.lemmas.List.Elements.{All-contains}
use Rattle.currency_base.specs.Lists.{OnlyOnce}
use Rattle.currency_base.specs.declared.lit.Lit.{Lit}
use Rattle.clause_arena.specs.Arenas.{Arena, AreWatchers, IsWatched}
use Rattle.search_trail.specs.Trails.{AreEntries, Entry, Trail, lits_of}
use Rattle.refutation_log.specs.Counted.{IsAtRest}
use Rattle.watch_propagate.specs.WatchRule.{AreAtRest, HasAdded, IsGuarded, IsRewatched, KeepsWatch}
use Rattle.watch_propagate.proofs.KeptLists.{contains_at, same_get}
use Rattle.watch_propagate.proofs.KeptLits.{among}
use Rattle.watch_propagate.proofs.KeptWatchers.{added_lits, watched_before}
use Rattle.watch_propagate.proofs.SameFacts.{at_rest_same}

-- the two watched literals of a clause differ
pub watched_differ : (a : Arena) (clause : ℕ) (w : IsWatched a clause) → AreWatchers a → w.first ≢ w.second
watched_differ a clause w are same =
    let once : OnlyOnce w.lits = All-contains OnlyOnce a.clauses w.lits are.distinct
    (contains_at a.clauses clause w.lits w.is_clause) in
    let no : 0 ≡ 1 = once 0 1 w.second (w.is_first ∙ ap Some same) w.is_second in
    omega (arith, no)

-- two literals of a clause of which one is true, where the other is false
pub rest_by_two : (truths lits : List Lit) (first second : Lit) → IsGuarded truths truths first second
    → Contains lits first → Contains lits second
    → first ≢ second → IsAtRest truths lits
rest_by_two truths lits first second guarded first_in second_in differ = go (among truths first) (among truths second)
  where
    go : Contains truths first ⊎ (Contains truths first → ⊥) → Contains truths second ⊎ (Contains truths second → ⊥)
        → IsAtRest truths lits
    go (inl holds) other = inl (record { lit = first; is_in = first_in; is_true = holds })
    go (inr out) (inl holds) = inl (record { lit = second; is_in = second_in; is_true = holds })
    go (inr out) (inr neither) =
        inr (record {
          first = first;
          second = second;
          differ = differ;
          first_in = first_in;
          second_in = second_in;
          first_open = record { not_true = out; not_false = λ c. neither (guarded.first_false c) };
          second_open = record { not_true = neither; not_false = λ c. out (guarded.second_false c) };
        })

pub rest_of_watched : (a : Arena) (truths : List Lit) → AreWatchers a →
    ((clause : ℕ) (w : IsWatched a clause) → IsGuarded truths truths w.first w.second)
    → AreAtRest a truths
rest_of_watched a truths are guarded clause w =
    rest_by_two truths w.lits w.first w.second (guarded clause w) (contains_at w.lits 0 w.first w.is_first)
    (contains_at w.lits 1 w.second w.is_second)
    (watched_differ a clause w are)

-- ---- the watch rule

-- where a level begins
pub rest_at_starts : (a : Arena) (t : Trail) (i start : ℕ) → AreWatchers a → AreEntries t → KeepsWatch a t
    → slice_get t.starts i ≡ Some start
    → AreAtRest a (take start (lits_of t))
rest_at_starts a t i start watchers are k is =
    rest_of_watched a (take start (lits_of t)) watchers (λ clause w. (k.guarded clause w).at_starts i start is)

-- and where all entries have been gone through
pub rest_at_end : (a : Arena) (t : Trail) → AreWatchers a → AreEntries t → KeepsWatch a t → t.gone ≡ length t.entries
    → AreAtRest a (lits_of t)
rest_at_end a t watchers are k whole =
    rest_of_watched a (lits_of t) watchers
    (λ clause w. subst (λ (ls : List Lit). IsGuarded ls (lits_of t) w.first w.second) all (k.guarded clause w).at_present)
  where
    all : take t.gone (lits_of t) ≡ lits_of t
    all = take_all t.gone (lits_of t) (omega (arith, whole, length-map t.entries (λ (e : Entry). e.lit)))

-- ---- other arenas

-- where literals of clauses change places
pub rest_rewatched : (old new : Arena) (truths : List Lit) → IsRewatched old new → AreAtRest old truths → AreAtRest new truths
rest_rewatched old new truths re rest clause w =
    let v = re.no_more clause w in
    at_rest_same truths v.lits w.lits (re.clauses.same clause v.lits w.lits v.is_clause w.is_clause) (rest clause v)

-- where a clause is added on which unit propagation is at rest
pub rest_added : (old new : Arena) (lits truths : List Lit) → HasAdded old new lits → IsAtRest truths lits
    → AreAtRest old truths → AreAtRest new truths
rest_added old new lits truths added last rest clause w = go (cases_eq clause (length old.clauses))
  where
    go : (clause ≡ length old.clauses) ⊎ (clause ≡ length old.clauses → ⊥) → IsAtRest truths w.lits
    go (inl e) =
        let there : slice_get new.clauses clause ≡ Some lits = ap (slice_get new.clauses) e ∙ added_lits old new lits added in
        subst (IsAtRest truths) (same_get new.clauses clause lits w.lits there w.is_clause) last
    go (inr differs) =
        let was = watched_before old new lits clause added differs w in
        subst (IsAtRest truths) was.is_lits (rest clause was.watched)
