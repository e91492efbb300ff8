-- What keeps an arena, a trail and the clauses that they hold together.
use Rattle.std.proofs.Common.{◌≡◌, ◌⊎◌, ◌∙◌, ℕ, List, [], ◌∷◌, ◌++◌, Option, Some, None, is_some, true, false, Contains, length, slice_get, slice_index_or, take, refl, sym, ap, subst, inl, inr, arith}
use Rattle.std.proofs.lemmas.List.{length-map, length_push, map-append}
use Rattle.std.proofs.lemmas.List.Elements.{Contains-push}
use Rattle.std.proofs.lemmas.Option.{same_Some, slice_get_within}
use Rattle.currency_base.specs.Literals.{negation, var_of}
use Rattle.currency_base.specs.declared.lit.Lit.{Lit}
use Rattle.watch_links.specs.Links.{IsIn, list_of}
use Rattle.clause_arena.specs.Arenas.{Arena, AreWithin, IsWatched, place_of}
use Rattle.search_trail.specs.Trails.{AreEntries, Entry, Trail, assumed, entries_up_to, focused, implied, lits_of, rebased, undone, with_reason}
use Rattle.refutation_log.specs.Counted.{HasTrue, IsOpen, IsUnit}
use Rattle.watch_propagate.specs.WatchRule.{AreGuarded, AreReordered, AreSameLits, HasAdded, HasReason, Implies, IsDueTo, IsQuiet, IsRewatched, KeepsWatch}
use Rattle.watch_propagate.proofs.KeptLists.{contains_at, get_end, get_left, get_push, same_get}
use Rattle.watch_propagate.proofs.KeptRules.{keeps_assumed, keeps_begun, keeps_learned, keeps_quiet, keeps_rebased, keeps_undone}
use Rattle.watch_propagate.proofs.KeptWatchers.{added_is_watched, watched_added}
use Rattle.watch_propagate.proofs.ReasonFacts.{lits_rebased, reasons_added, reasons_assumed, reasons_dropped, reasons_implied, reasons_propagated, reasons_rebased, reasons_undone}
use Rattle.watch_propagate.proofs.SameFacts.{clause_there, has_true_same, reordered_then}
use Rattle.search_state.specs.Held.{AreCovered, AreHeld, BeginsOpen, BeginsTrue, BeginsUnit, HasWatched, IsAllFalse, IsRefuted}
use Rattle.search_state.specs.Held.{ground_lits}
use Rattle.search_state.proofs.Grounds.{ground_all, ground_assumed, ground_more, ground_undone, undone_none}

-- more literals are true
has_true_more : (truths more lits : List Lit) → ((x : Lit) → Contains truths x → Contains more x)
    → HasTrue truths lits → HasTrue more lits
has_true_more truths more lits grows h = record { lit = h.lit; is_in = h.is_in; is_true = grows h.lit h.is_true }

-- the same clauses, where those that hold at level 0 hold still
covered_more : (a : Arena) (t u : Trail) → ((x : Lit) → Contains (ground_lits t) x → Contains (ground_lits u) x)
    → AreCovered a t → AreCovered a u
covered_more a t u grows covered clause lits is = go (covered clause lits is)
  where
    go : HasWatched a lits ⊎ HasTrue (ground_lits t) lits → HasWatched a lits ⊎ HasTrue (ground_lits u) lits
    go (inl h) = inl h
    go (inr h) = inr (has_true_more (ground_lits t) (ground_lits u) lits grows h)

-- a clause that is watched is a part of itself
by_itself : (a : Arena) (clause : ℕ) (lits : List Lit) → slice_get a.clauses clause ≡ Some lits → IsWatched a clause
    → HasWatched a lits
by_itself a clause lits is w =
    record {
      clause = clause;
      watched = w;
      among = λ lit c. subst (λ (ls : List Lit). Contains ls lit) (same_get a.clauses clause w.lits lits w.is_clause is) c;
    }

-- the part is watched still, and has the literals that it had
pub watched_still : (a b : Arena) (lits : List Lit) (h : HasWatched a lits) → IsWatched b h.clause
    → slice_get b.clauses h.clause ≡ Some h.watched.lits → HasWatched b lits
watched_still a b lits h w is =
    record {
      clause = h.clause;
      watched = w;
      among = λ lit c. h.among lit
          (subst (λ (ls : List Lit). Contains ls lit) (same_get b.clauses h.clause w.lits h.watched.lits w.is_clause is) c);
    }

no_clause : (clause : ℕ) → None ≡ Some clause → ⊥
no_clause clause e = cc

-- ---- no clause and no literal

pub held_begun : (a : Arena) (t : Trail) → a.clauses ≡ [] → t.entries ≡ [] → t.starts ≡ [] → AreHeld [] a t None
held_begun a t clauses entries starts =
    record {
      reordered = record { as_many = ap length clauses; same = λ clause xs ys is. absurd (none xs clause is) };
      reasons = λ place e clause is. absurd (no_entry place e (ap (λ (es : List Entry). slice_get es place) (sym entries) ∙ is));
      goes_on = λ e. record {
        rule = keeps_begun a t entries starts;
        covered = λ clause lits is. absurd
            (none lits clause (ap (λ (cs : List (List Lit)). slice_get cs clause) (sym clauses) ∙ is));
      };
      stuck = λ clause e. absurd (no_clause clause e);
    }
  where
    none : (lits : List Lit) (clause : ℕ) → slice_get [] clause ≡ Some lits → ⊥
    none lits clause is = cc

    no_entry : (place : ℕ) (e : Entry) → slice_get [] place ≡ Some e → ⊥
    no_entry place e is = cc

-- ---- the same clauses

pub held_propagated : (clauses : List (List Lit)) (old new : Arena) (was is : Trail) → AreEntries was
    → IsRewatched old new → Implies new was is → KeepsWatch new is
    → AreHeld clauses old was None → AreHeld clauses new is None
held_propagated clauses old new was is are re implies rule held =
    record {
      reordered = reordered_then clauses old.clauses new.clauses held.reordered re.clauses;
      reasons = reasons_propagated old new was is re implies held.reasons;
      goes_on = λ e. record { rule = rule; covered = covered };
      stuck = λ clause e. absurd (no_clause clause e);
    }
  where
    covered : AreCovered new is
    covered clause lits there = go (clause_there new.clauses old.clauses clause lits (sym re.clauses.as_many) there)
      where
        go : (xs : List Lit) × (slice_get old.clauses clause ≡ Some xs) → HasWatched new lits ⊎ HasTrue (ground_lits is) lits
        go (xs, before) = by ((held.goes_on refl).covered clause xs before)
          where
            part : HasWatched old xs → HasWatched new lits
            part h =
                let w = re.still h.clause h.watched in
                record {
                  clause = h.clause;
                  watched = w;
                  among = λ lit c. (re.clauses.same clause xs lits before there).none_lost lit
                      (h.among lit ((re.clauses.same h.clause h.watched.lits w.lits h.watched.is_clause w.is_clause).none_new lit c));
                }

            by : HasWatched old xs ⊎ HasTrue (ground_lits was) xs → HasWatched new lits ⊎ HasTrue (ground_lits is) lits
            by (inl h) = inl (part h)
            by (inr h) =
                inr (has_true_same (ground_lits is) xs lits (re.clauses.same clause xs lits before there)
                (has_true_more (ground_lits was) (ground_lits is) xs
                (λ x c. ground_more was is implies.added x are implies.starts implies.entries c) h))

pub held_assumed : (clauses : List (List Lit)) (a : Arena) (t : Trail) (lit : Lit) → AreEntries t → t.gone ≡ length t.entries
    → AreHeld clauses a t None → AreHeld clauses a (assumed t lit) None
held_assumed clauses a t lit are whole held =
    record {
      reordered = held.reordered;
      reasons = reasons_assumed a t lit held.reasons;
      goes_on = λ e. record {
        rule = keeps_assumed a t lit (held.goes_on refl).rule whole;
        covered = covered_more a t (assumed t lit) (λ x c. ground_assumed t lit x are c) (held.goes_on refl).covered;
      };
      stuck = λ clause e. absurd (no_clause clause e);
    }

pub held_undone : (clauses : List (List Lit)) (a : Arena) (t : Trail) (refuted : Option ℕ) (level : ℕ) → AreEntries t
    → AreHeld clauses a t refuted → AreHeld clauses a (undone t level) refuted
held_undone clauses a t refuted level are held =
    record {
      reordered = held.reordered;
      reasons = reasons_undone a t level held.reasons;
      goes_on = λ e. record {
        rule = keeps_undone a t level are (held.goes_on e).rule;
        covered = covered_more a t (undone t level) (λ x c. ground_undone t level x are c) (held.goes_on e).covered;
      };
      stuck = λ clause e.
          let r = held.stuck clause e in
          subst (λ (u : Trail). IsRefuted a u clause) (sym (undone_none t level are r.starts)) r;
    }

-- another scope makes no difference
guarded_focused : (t : Trail) (scope : List ℕ) (first second : Lit) → AreGuarded t first second
    → AreGuarded (focused t scope) first second
guarded_focused t scope first second g = record { at_present = g.at_present; at_starts = g.at_starts }

pub held_focused : (clauses : List (List Lit)) (a : Arena) (t : Trail) (refuted : Option ℕ) (scope : List ℕ)
    → AreHeld clauses a t refuted → AreHeld clauses a (focused t scope) refuted
held_focused clauses a t refuted scope held =
    record {
      reordered = held.reordered;
      reasons = held.reasons;
      goes_on = λ e.
          let goes = held.goes_on e in
          record {
            rule = record {
              passed = goes.rule.passed;
              guarded = λ clause w. guarded_focused t scope w.first w.second (goes.rule.guarded clause w);
            };
            covered = goes.covered;
          };
      stuck = λ clause e.
          let r = held.stuck clause e in
          record {
            starts = r.starts;
            falsified = record {
              lits = r.falsified.lits;
              is_clause = r.falsified.is_clause;
              all_false = r.falsified.all_false;
            };
          };
    }

-- a clause of one literal, which is true, becomes the reason of that literal
pub held_rebased : (clauses : List (List Lit)) (a : Arena) (t : Trail) (refuted : Option ℕ) (lit : Lit) (clause : ℕ)
    → AreEntries t → Contains (lits_of t) lit → slice_get a.clauses clause ≡ Some (lit ∷ []) → AreHeld clauses a t refuted
    → AreHeld clauses a (rebased t (var_of lit) clause) refuted
held_rebased clauses a t refuted lit clause are holds alone held =
    record {
      reordered = held.reordered;
      reasons = reasons_rebased a t lit clause are holds alone held.reasons;
      goes_on = λ e.
          let goes = held.goes_on e in
          record {
            rule = keeps_rebased a t (var_of lit) clause goes.rule;
            covered = covered_more a t (rebased t (var_of lit) clause)
                (λ x c. subst (λ (ls : List Lit). Contains ls x) grounds c) goes.covered;
          };
      stuck = λ number e.
          let r = held.stuck number e in
          record {
            starts = r.starts;
            falsified = record {
              lits = r.falsified.lits;
              is_clause = r.falsified.is_clause;
              all_false = λ l c. subst (λ (ls : List Lit). Contains ls (negation l)) same (r.falsified.all_false l c);
            };
          };
    }
  where
    same : lits_of t ≡ lits_of (rebased t (var_of lit) clause)
    same = sym (lits_rebased (var_of lit) clause t.entries)

    grounds : ground_lits t ≡ ground_lits (rebased t (var_of lit) clause)
    grounds =
        ap (λ (n : ℕ). take (slice_index_or t.starts 0 n) (lits_of t))
        (sym (length-map t.entries (with_reason (var_of lit) clause)))
        ∙ ap (take (entries_up_to (rebased t (var_of lit) clause) 0)) same

-- ---- one clause more

reordered_push : (clauses : List (List Lit)) (old new : Arena) (xs ys : List Lit) → AreReordered clauses old.clauses
    → AreSameLits xs ys → HasAdded old new ys
    → AreReordered (clauses ++ xs ∷ []) new.clauses
reordered_push clauses old new xs ys re same added =
    record {
      as_many = omega (arith, ap length added.clauses, length_push old.clauses ys, length_push clauses xs, re.as_many);
      same = λ clause us vs one other.
          go clause us vs (get_push clauses xs clause us one)
          (get_push old.clauses ys clause vs (ap (λ (cs : List (List Lit)). slice_get cs clause) (sym added.clauses) ∙ other));
    }
  where
    go : (clause : ℕ) (us vs : List Lit) → (slice_get clauses clause ≡ Some us) ⊎ ((clause ≡ length clauses) × (xs ≡ us))
        → (slice_get old.clauses clause ≡ Some vs) ⊎ ((clause ≡ length old.clauses) × (ys ≡ vs)) → AreSameLits us vs
    go clause us vs (inl a) (inl b) = re.same clause us vs a b
    go clause us vs (inl a) (inr b) = absurd (omega (arith, slice_get_within clauses clause us a, b.0, re.as_many))
    go clause us vs (inr a) (inl b) = absurd (omega (arith, slice_get_within old.clauses clause vs b, a.0, re.as_many))
    go clause us vs (inr a) (inr b) = subst (λ (zs : List Lit). AreSameLits zs vs) a.1 (subst (AreSameLits xs) b.1 same)

covered_push : (old new : Arena) (lits : List Lit) (t u : Trail) → HasAdded old new lits →
    ((x : Lit) → Contains (ground_lits t) x → Contains (ground_lits u) x)
    → AreCovered old t → IsWatched new (length old.clauses) ⊎ HasTrue (ground_lits u) lits → AreCovered new u
covered_push old new lits t u added grows covered last clause xs is =
    go (get_push old.clauses lits clause xs (ap (λ (cs : List (List Lit)). slice_get cs clause) (sym added.clauses) ∙ is))
  where
    before : HasWatched old xs ⊎ HasTrue (ground_lits t) xs → HasWatched new xs ⊎ HasTrue (ground_lits u) xs
    before (inl h) =
        inl (watched_still old new xs h (watched_added old new lits h.clause added h.watched)
        (ap (λ (cs : List (List Lit)). slice_get cs h.clause) added.clauses
        ∙ get_left old.clauses (lits ∷ []) h.clause h.watched.lits h.watched.is_clause))
    before (inr h) = inr (has_true_more (ground_lits t) (ground_lits u) xs grows h)

    at_end : IsWatched new (length old.clauses) ⊎ HasTrue (ground_lits u) lits → HasWatched new lits ⊎ HasTrue (ground_lits u) lits
    at_end (inl w) =
        inl (by_itself new (length old.clauses) lits
        (ap (λ (cs : List (List Lit)). slice_get cs (length old.clauses)) added.clauses ∙ get_end old.clauses lits) w)
    at_end (inr h) = inr h

    go : (slice_get old.clauses clause ≡ Some xs) ⊎ ((clause ≡ length old.clauses) × (lits ≡ xs))
        → HasWatched new xs ⊎ HasTrue (ground_lits u) xs
    go (inl there) = before (covered clause xs there)
    go (inr h) = subst (λ (zs : List Lit). HasWatched new zs ⊎ HasTrue (ground_lits u) zs) h.1 (at_end last)

-- a clause that is watched, if it has two literals
watched_or_short : (old new : Arena) (truths lits : List Lit) (first : Lit) → HasAdded old new lits
    → AreWithin old lits → slice_get lits 0 ≡ Some first
    → (lits ≡ first ∷ [] → HasTrue truths lits) → IsWatched new (length old.clauses) ⊎ HasTrue truths lits
watched_or_short old new truths lits first added within head short = go lits refl
  where
    go : (ls : List Lit) → lits ≡ ls → IsWatched new (length old.clauses) ⊎ HasTrue truths lits
    go [] e = let none : slice_get [] 0 ≡ Some first = ap (λ (zs : List Lit). slice_get zs 0) (sym e)
        ∙ head in let no : ⊥ = cc in absurd no
    go (x ∷ []) e =
        let same : x ≡ first = same_Some x first (ap (λ (zs : List Lit). slice_get zs 0) (sym e) ∙ head) in
        inr (short (e ∙ ap (λ (z : Lit). z ∷ []) same))
    go (x ∷ y ∷ rest) e = inl (added_is_watched old new lits x y rest added e within)

-- a clause was found false before
pub held_stuck : (clauses : List (List Lit)) (old new : Arena) (xs ys : List Lit) (t : Trail) (found : ℕ)
    → AreSameLits xs ys → HasAdded old new ys
    → AreHeld clauses old t (Some found) → AreHeld (clauses ++ xs ∷ []) new t (Some found)
held_stuck clauses old new xs ys t found same added held =
    record {
      reordered = reordered_push clauses old new xs ys held.reordered same added;
      reasons = reasons_added old new ys t.entries added held.reasons;
      goes_on = λ e. let no : ⊥ = cc in absurd no;
      stuck = λ clause e.
          let r = held.stuck clause e in
          record {
            starts = r.starts;
            falsified = record {
              lits = r.falsified.lits;
              is_clause = ap (λ (cs : List (List Lit)). slice_get cs clause) added.clauses ∙ get_left old.clauses
                  (ys ∷ []) clause r.falsified.lits r.falsified.is_clause;
              all_false = r.falsified.all_false;
            };
          };
    }

-- it is the added one
pub held_fails : (clauses : List (List Lit)) (old new : Arena) (xs ys : List Lit) (t : Trail) → t.starts ≡ []
    → AreSameLits xs ys → HasAdded old new ys
    → IsAllFalse (lits_of t) ys → AreHeld clauses old t None → AreHeld (clauses ++ xs ∷ []) new t (Some (length old.clauses))
held_fails clauses old new xs ys t starts same added fails held =
    record {
      reordered = reordered_push clauses old new xs ys held.reordered same added;
      reasons = reasons_added old new ys t.entries added held.reasons;
      goes_on = λ e. let no : ⊥ = cc in absurd no;
      stuck = λ clause e.
          let at : length old.clauses ≡ clause = same_Some (length old.clauses) clause e in
          record {
            starts = starts;
            falsified = record {
              lits = ys;
              is_clause = ap (λ (cs : List (List Lit)). slice_get cs clause) added.clauses
                  ∙ subst (λ (n : ℕ). slice_get (old.clauses ++ ys ∷ []) n ≡ Some ys) at (get_end old.clauses ys);
              all_false = fails;
            };
          };
    }

-- unit propagation is at rest on it
pub held_rests : (clauses : List (List Lit)) (old new : Arena) (xs ys : List Lit) (t : Trail) → AreEntries t
    → t.starts ≡ [] → AreSameLits xs ys → HasAdded old new ys
    → AreWithin old ys → BeginsTrue (lits_of t) ys ⊎ BeginsOpen (lits_of t) ys → AreHeld clauses old t None
    → AreHeld (clauses ++ xs ∷ []) new t None
held_rests clauses old new xs ys t are starts same added within begins held =
    record {
      reordered = reordered_push clauses old new xs ys held.reordered same added;
      reasons = reasons_added old new ys t.entries added held.reasons;
      goes_on = λ e. record {
        rule = keeps_quiet old new ys t are starts added (quiet begins) (held.goes_on refl).rule;
        covered = covered_push old new ys t t added (λ x c. c) (held.goes_on refl).covered (last begins);
      };
      stuck = λ clause e. absurd (no_clause clause e);
    }
  where
    quiet : BeginsTrue (lits_of t) ys ⊎ BeginsOpen (lits_of t) ys → IsQuiet t ys
    quiet (inl b) first second rest is =
        let head : b.first ≡ first = same_Some b.first first (sym b.is_first ∙ ap (λ (zs : List Lit). slice_get zs 0) is) in
        inl (subst (Contains (lits_of t)) head b.is_true)
    quiet (inr b) first second rest is =
        let head : b.first ≡ first = same_Some b.first first (sym b.is_first ∙ ap (λ (zs : List Lit). slice_get zs 0) is) in
        let next : b.second ≡ second = same_Some b.second second (sym b.is_second ∙ ap (λ (zs : List Lit). slice_get zs 1) is) in
        inr (subst (IsOpen (lits_of t)) head b.first_open, subst (IsOpen (lits_of t)) next b.second_open)

    last : BeginsTrue (lits_of t) ys ⊎ BeginsOpen (lits_of t) ys → IsWatched new (length old.clauses) ⊎ HasTrue (ground_lits t) ys
    last (inl b) =
        inr (record {
          lit = b.first;
          is_in = contains_at ys 0 b.first b.is_first;
          is_true = subst (λ (zs : List Lit). Contains zs b.first) (sym (ground_all t starts)) b.is_true;
        })
    last (inr b) =
        watched_or_short old new (ground_lits t) ys b.first added within b.is_first
        (λ e. let none : slice_get (b.first ∷ []) 1 ≡ Some b.second = ap (λ (zs : List Lit). slice_get zs 1) (sym e)
        ∙ b.is_second in let no : ⊥ = cc in absurd no)

-- and it implies its first literal
pub held_implied : (clauses : List (List Lit)) (old new : Arena) (xs ys : List Lit) (first : Lit) (t : Trail)
    → AreEntries t → AreSameLits xs ys → HasAdded old new ys
    → AreWithin old ys → slice_get ys 0 ≡ Some first → IsUnit (lits_of t) ys first → IsDueTo t ys →
    (ys ≡ first ∷ [] → t.starts ≡ [])
    → AreHeld clauses old t None → AreHeld (clauses ++ xs ∷ []) new (implied t first (length old.clauses)) None
held_implied clauses old new xs ys first t are same added within head unit due alone held =
    record {
      reordered = reordered_push clauses old new xs ys held.reordered same added;
      reasons = reasons_implied new t first (length old.clauses) reason (reasons_added old new ys t.entries added held.reasons);
      goes_on = λ e. record {
        rule = keeps_learned old new ys t first (length old.clauses) are head added due (held.goes_on refl).rule;
        covered = covered_push old new ys t after added (λ x c. ground_more t after (entry ∷ []) x are refl refl c)
            (held.goes_on refl).covered last;
      };
      stuck = λ clause e. absurd (no_clause clause e);
    }
  where
    entry : Entry
    entry = record { lit = first; reason = Some (length old.clauses) }

    after : Trail
    after = implied t first (length old.clauses)

    reason : HasReason new (lits_of t) first (length old.clauses)
    reason =
        record {
          lits = ys;
          is_clause = ap (λ (cs : List (List Lit)). slice_get cs (length old.clauses)) added.clauses ∙ get_end old.clauses ys;
          is_reason = record { is_in = unit.is_in; others = unit.others };
        }

    seen : lits_of after ≡ lits_of t ++ first ∷ []
    seen = map-append (λ (e : Entry). e.lit) t.entries (entry ∷ [])

    last : IsWatched new (length old.clauses) ⊎ HasTrue (ground_lits after) ys
    last =
        watched_or_short old new (ground_lits after) ys first added within head
        (λ e. record {
          lit = first;
          is_in = contains_at ys 0 first head;
          is_true = subst (λ (zs : List Lit). Contains zs first) (sym (ground_all after (alone e) ∙ seen))
              (Contains-push (lits_of t) first);
        })

-- where nothing is assumed a clause whose first literal is open and whose others are false is due
pub due_on_ground : (t : Trail) (lits : List Lit) (begins : BeginsUnit (lits_of t) lits) → t.starts ≡ [] → IsDueTo t lits
due_on_ground t lits begins starts first second rest is = (
  subst (IsOpen (lits_of t)) (same_Some begins.first first
      (sym begins.is_first ∙ ap (λ (zs : List Lit). slice_get zs 0) is)) begins.unit.is_open,
  λ i start at c. let none : slice_get [] i ≡ Some start = ap (λ (ss : List ℕ). slice_get ss i) (sym starts)
      ∙ at in let no : ⊥ = cc in no,
)

-- ---- an arena with more room

module _ (a b : Arena) (clauses_same : b.clauses ≡ a.clauses) (watchers_same : b.watchers ≡ a.watchers) where
  -- what is watched in the one is watched in the other
  watched_same : (clause : ℕ) → IsWatched a clause → IsWatched b clause
  watched_same clause w =
      record {
        lits = w.lits;
        is_clause = ap (λ (cs : List (List Lit)). slice_get cs clause) clauses_same ∙ w.is_clause;
        first = w.first;
        second = w.second;
        is_first = w.is_first;
        is_second = w.is_second;
        by_first = subst (λ (ls : List (List ℕ)). IsIn clause (list_of ls (place_of w.first))) (sym watchers_same) w.by_first;
        by_second = subst (λ (ls : List (List ℕ)). IsIn clause (list_of ls (place_of w.second))) (sym watchers_same) w.by_second;
      }

  rule_same : (t : Trail) → KeepsWatch b t → KeepsWatch a t
  unfolding watched_same
  rule_same t k = record { passed = k.passed; guarded = λ clause w. k.guarded clause (watched_same clause w) }

-- an arena that differs in its room alone holds the same
pub held_same : (clauses : List (List Lit)) (a b : Arena) (t : Trail) (refuted : Option ℕ) → b.clauses ≡ a.clauses
    → b.watchers ≡ a.watchers
    → AreHeld clauses a t refuted → AreHeld clauses b t refuted
held_same clauses a b t refuted same watchers held =
    record {
      reordered = subst (AreReordered clauses) (sym same) held.reordered;
      reasons = reasons_dropped a b t.entries same held.reasons;
      goes_on = λ e. record {
        rule = rule_same b a (sym same) (sym watchers) t (held.goes_on e).rule;
        covered = λ clause lits is. go clause lits
            ((held.goes_on e).covered clause lits (ap (λ (cs : List (List Lit)). slice_get cs clause) (sym same) ∙ is));
      };
      stuck = λ clause e.
          let r = held.stuck clause e in
          record {
            starts = r.starts;
            falsified = record {
              lits = r.falsified.lits;
              is_clause = ap (λ (cs : List (List Lit)). slice_get cs clause) same ∙ r.falsified.is_clause;
              all_false = r.falsified.all_false;
            };
          };
    }
  where
    go : (clause : ℕ) (lits : List Lit) → HasWatched a lits ⊎ HasTrue (ground_lits t) lits → HasWatched b lits ⊎
        HasTrue (ground_lits t) lits
    go clause lits (inl h) =
        inl (watched_still a b lits h (watched_same a b same watchers h.clause h.watched)
        (ap (λ (cs : List (List Lit)). slice_get cs h.clause) same ∙ h.watched.is_clause))
    go clause lits (inr h) = inr h

-- by other names of the trail and of what was found
pub held_as : (clauses : List (List Lit)) (a : Arena) (t u : Trail) (r s : Option ℕ) → u ≡ t → s ≡ r
    → AreHeld clauses a t r → AreHeld clauses a u s
held_as clauses a t u r s trail found held =
    subst (AreHeld clauses a u) (sym found) (subst (λ (v : Trail). AreHeld clauses a v r) (sym trail) held)

pub none_found : (o : Option ℕ) → is_some o ≡ false → o ≡ None
none_found None e = refl
none_found (Some n) e = let no : ⊥ = cc in absurd no

-- a clause was found false before, whichever
pub held_found : (clauses : List (List Lit)) (old new : Arena) (xs ys : List Lit) (t : Trail) (found : Option ℕ)
    → is_some found ≡ true → AreSameLits xs ys → HasAdded old new ys
    → AreHeld clauses old t found → AreHeld (clauses ++ xs ∷ []) new t found
held_found clauses old new xs ys t None e same added held = let no : ⊥ = cc in absurd no
held_found clauses old new xs ys t (Some n) e same added held = held_stuck clauses old new xs ys t n same added held
