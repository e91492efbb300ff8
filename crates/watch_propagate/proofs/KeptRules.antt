-- What keeps the watch rule.
use Rattle.std.proofs.Common.{◌≡◌, ◌⊎◌, ◌<◌, ◌≤◌, ◌∙◌, ℕ, min, List, [], ◌∷◌, ◌++◌, Some, None, Contains, length, map, take, slice_get, sym, ap, subst, inl, inr, arith}
use Rattle.std.specs.List.{filter}
use Rattle.std.proofs.lemmas.Bool.{cases_eq, cases_lt}
use Rattle.std.proofs.lemmas.List.{length-map, map-append, take_all, take-append-le, take-map, take-take, get_or_past}
use Rattle.std.proofs.lemmas.List.Elements.{Contains-append_left, Contains-push}
use Rattle.std.proofs.lemmas.Option.{same_Some, slice_get-get_or}
use Rattle.currency_base.specs.Literals.{negation}
use Rattle.currency_base.specs.declared.lit.Lit.{Lit}
use Rattle.clause_arena.specs.Arenas.{Arena, IsWatched, is_other}
use Rattle.clause_arena.proofs.Left.{was_watched}
use Rattle.search_trail.specs.Trails.{AreEntries, Entry, Trail, assumed, entries_up_to, implied, lits_of, rebased, undone}
use Rattle.refutation_log.specs.Counted.{IsOpen}
use Rattle.watch_propagate.specs.WatchRule.{AreGuarded, HasAdded, IsDueTo, IsGuarded, IsQuiet, KeepsWatch}
use Rattle.watch_propagate.proofs.KeptLists.{from_front, get_push, get_take, same_get}
use Rattle.watch_propagate.proofs.KeptLits.{lits_consistent}
use Rattle.watch_propagate.proofs.ReasonFacts.{lits_rebased}
use Rattle.watch_propagate.proofs.KeptWatchers.{WasWatched, added_lits, two_at, watched_before}

-- ---- two watched literals

-- fewer were found false, or more are true
pub guarded_more : (found fewer truths more : List Lit) (first second : Lit) →
    ((lit : Lit) → Contains fewer lit → Contains found lit)
    → ((lit : Lit) → Contains truths lit → Contains more lit) → IsGuarded found truths first second
    → IsGuarded fewer more first second
guarded_more found fewer truths more first second less grows g =
    record {
      first_false = λ c. grows second (g.first_false (less (negation first) c));
      second_false = λ c. grows first (g.second_false (less (negation second) c));
    }

-- a literal more, behind what has been gone through
guarded_push : (lits : List Lit) (lit : Lit) (n : ℕ) (first second : Lit) → n ≤ length lits → IsGuarded (take n lits)
    lits first second
    → IsGuarded (take n (lits ++ lit ∷ [])) (lits ++ lit ∷ []) first second
guarded_push lits lit n first second h g =
    subst (λ (ls : List Lit). IsGuarded ls (lits ++ lit ∷ []) first second) (sym (take-append-le n lits (lit ∷ []) h))
    (guarded_more (take n lits) (take n lits) lits (lits ++ lit ∷ []) first second (λ l c. c)
    (λ l c. Contains-append_left lits (lit ∷ []) l c) g)

-- and behind a front
front_push : (lits : List Lit) (lit : Lit) (n : ℕ) (first second : Lit) → n ≤ length lits → IsGuarded (take n lits)
    (take n lits) first second
    → IsGuarded (take n (lits ++ lit ∷ [])) (take n (lits ++ lit ∷ [])) first second
front_push lits lit n first second h g =
    subst (λ (ls : List Lit). IsGuarded ls ls first second) (sym (take-append-le n lits (lit ∷ []) h)) g

lits_length : (t : Trail) → length (lits_of t) ≡ length t.entries
lits_length t = length-map t.entries (λ (e : Entry). e.lit)

-- the literals with one entry more
lits_push : (entries : List Entry) (e : Entry) → map (λ (d : Entry). d.lit) (entries ++ e ∷ []) ≡ map
    (λ (d : Entry). d.lit) entries ++ e.lit ∷ []
lits_push entries e = map-append (λ (d : Entry). d.lit) entries (e ∷ [])

-- ---- a trail with no entry

pub keeps_begun : (a : Arena) (t : Trail) → t.entries ≡ [] → t.starts ≡ [] → KeepsWatch a t
keeps_begun a t entries starts =
    record {
      passed = λ i start is. absurd (no_start i start is);
      guarded = λ clause w. record {
        at_present = record {
          first_false = λ c. absurd (no_lit (negation w.first) c);
          second_false = λ c. absurd
              (no_lit (negation w.second) c);
        };
        at_starts = λ i start is. absurd (no_start i start is);
      };
    }
  where
    no_start : (i start : ℕ) → slice_get t.starts i ≡ Some start → ⊥
    no_start i start is = let none : slice_get [] i ≡ Some start = ap (λ (ss : List ℕ). slice_get ss i) (sym starts) ∙ is in cc

    no_lit : (lit : Lit) → Contains (take t.gone (lits_of t)) lit → ⊥
    no_lit lit c =
        let some = from_front t.gone (lits_of t) lit c in
        omega (arith, some.1, lits_length t, ap length entries)

-- ---- one entry more

pub keeps_assumed : (a : Arena) (t : Trail) (lit : Lit) → KeepsWatch a t → t.gone ≡ length t.entries → KeepsWatch a
    (assumed t lit)
keeps_assumed a t lit k whole =
    record {
      passed = λ i start is. passed i start (get_push t.starts (length t.entries) i start is);
      guarded = λ clause w. record {
        at_present = subst (λ (ls : List Lit). IsGuarded (take t.gone ls) ls w.first w.second) (sym seen)
            (guarded_push (lits_of t) lit t.gone w.first w.second (omega (arith, whole, lits_length t))
            (k.guarded clause w).at_present);
        at_starts = λ i start is. subst (λ (ls : List Lit). IsGuarded (take start ls) (take start ls) w.first w.second) (sym seen)
            (front clause w i start (get_push t.starts (length t.entries) i start is));
      };
    }
  where
    seen : lits_of (assumed t lit) ≡ lits_of t ++ lit ∷ []
    seen = lits_push t.entries (record { lit = lit; reason = None })

    passed : (i start : ℕ) → (slice_get t.starts i ≡ Some start) ⊎
        ((i ≡ length t.starts) × (length t.entries ≡ start)) → start ≤ t.gone
    passed i start (inl is) = k.passed i start is
    passed i start (inr h) = omega (arith, h.1, whole)

    front : (clause : ℕ) (w : IsWatched a clause) (i start : ℕ) → (slice_get t.starts i ≡ Some start) ⊎
        ((i ≡ length t.starts) × (length t.entries ≡ start))
        → IsGuarded (take start (lits_of t ++ lit ∷ [])) (take start (lits_of t ++ lit ∷ [])) w.first w.second
    front clause w i start (inl is) =
        front_push (lits_of t) lit start w.first w.second (omega (arith, k.passed i start is, whole, lits_length t))
        ((k.guarded clause w).at_starts i start is)
    front clause w i start (inr h) =
        let same : t.gone ≡ start = whole ∙ h.1 in
        let all : take start (lits_of t) ≡ lits_of t = take_all start (lits_of t) (omega (arith, h.1, lits_length t)) in
        let here : IsGuarded (take start (lits_of t)) (lits_of t) w.first w.second =
        subst (λ (n : ℕ). IsGuarded (take n (lits_of t)) (lits_of t) w.first w.second) same (k.guarded clause w).at_present in
        front_push (lits_of t) lit start w.first w.second (omega (arith, h.1, lits_length t))
        (subst (λ (ls : List Lit). IsGuarded (take start (lits_of t)) ls w.first w.second) (sym all) here)

-- two watched literals of a trail with an implied literal more
guarded_implied : (t : Trail) (lit : Lit) (clause : ℕ) (first second : Lit) → AreEntries t → AreGuarded t first second
    → AreGuarded (implied t lit clause) first second
guarded_implied t lit clause first second are g =
    record {
      at_present = subst (λ (ls : List Lit). IsGuarded (take t.gone ls) ls first second) (sym seen)
          (guarded_push (lits_of t) lit t.gone first second (omega (arith, are.gone, lits_length t)) g.at_present);
      at_starts = λ i start is. subst (λ (ls : List Lit). IsGuarded (take start ls) (take start ls) first second) (sym seen)
          (front_push (lits_of t) lit start first second (omega (arith, are.begun i start is, lits_length t))
          (g.at_starts i start is));
    }
  where
    seen : lits_of (implied t lit clause) ≡ lits_of t ++ lit ∷ []
    seen = lits_push t.entries (record { lit = lit; reason = Some clause })

pub keeps_implied : (a : Arena) (t : Trail) (lit : Lit) (clause : ℕ) → AreEntries t → KeepsWatch a t → KeepsWatch a
    (implied t lit clause)
keeps_implied a t lit clause are k =
    record { passed = k.passed; guarded = λ number w. guarded_implied t lit clause w.first w.second are (k.guarded number w) }

-- another reason for a variable makes no difference
keeps_rebased_lits : (t : Trail) (var clause : ℕ) (first second : Lit) → AreGuarded t first second
    → AreGuarded (rebased t var clause) first second
keeps_rebased_lits t var clause first second g =
    let same : lits_of t ≡ lits_of (rebased t var clause) = sym (lits_rebased var clause t.entries) in
    record {
      at_present = subst (λ (ls : List Lit). IsGuarded (take t.gone ls) ls first second) same g.at_present;
      at_starts = λ i start is. subst (λ (ls : List Lit). IsGuarded (take start ls) (take start ls) first second) same
          (g.at_starts i start is);
    }

pub keeps_rebased : (a : Arena) (t : Trail) (var clause : ℕ) → KeepsWatch a t → KeepsWatch a (rebased t var clause)
keeps_rebased a t var clause k =
    record {
      passed = k.passed;
      guarded = λ number w. keeps_rebased_lits t var clause w.first w.second (k.guarded number w);
    }

-- ---- going back

-- the trail up to where a level begins
abbrev cut_off : Trail → ℕ → ℕ → Trail
cut_off t level cut = record t { entries = take cut t.entries; starts = take level t.starts; gone = cut }

guarded_cut : (t : Trail) (level cut : ℕ) (first second : Lit) → AreEntries t → slice_get t.starts level ≡ Some cut
    → AreGuarded t first second
    → AreGuarded (cut_off t level cut) first second
guarded_cut t level cut first second are begins g =
    record {
      at_present = subst (λ (ls : List Lit). IsGuarded (take cut ls) ls first second) seen
          (subst (λ (ls : List Lit). IsGuarded ls (take cut (lits_of t)) first second)
          (sym (take-take cut cut (lits_of t) (omega arith))) (g.at_starts level cut begins));
      at_starts = λ i start is. front i start (get_take level t.starts i start is);
    }
  where
    seen : take cut (lits_of t) ≡ lits_of (cut_off t level cut)
    seen = take-map (λ (e : Entry). e.lit) cut t.entries

    front : (i start : ℕ) → (i < level) × (slice_get t.starts i ≡ Some start)
        → IsGuarded (take start (lits_of (cut_off t level cut))) (take start (lits_of (cut_off t level cut))) first second
    front i start h =
        let below : start < cut = are.ascend i level start cut h.0 h.1 begins in
        subst (λ (ls : List Lit). IsGuarded (take start ls) (take start ls) first second) seen
        (subst (λ (ls : List Lit). IsGuarded ls ls first second)
        (sym (take-take start cut (lits_of t) (omega (arith, below)))) (g.at_starts i start h.1))

keeps_cut : (a : Arena) (t : Trail) (level cut : ℕ) → AreEntries t → slice_get t.starts level ≡ Some cut
    → KeepsWatch a t → KeepsWatch a (cut_off t level cut)
keeps_cut a t level cut are begins k =
    record {
      passed = λ i start is.
          let h = get_take level t.starts i start is in
          omega (arith, are.ascend i level start cut h.0 h.1 begins);
      guarded = λ clause w. guarded_cut t level cut w.first w.second are begins (k.guarded clause w);
    }

pub keeps_undone : (a : Arena) (t : Trail) (level : ℕ) → AreEntries t → KeepsWatch a t → KeepsWatch a (undone t level)
keeps_undone a t level are k = go (cases_lt level (length t.starts))
  where
    go : (level < length t.starts) ⊎ (length t.starts ≤ level) → KeepsWatch a (undone t level)
    go (inl below) =
        let begins : slice_get t.starts level ≡ Some (entries_up_to t level) = slice_get-get_or t.starts level
        (length t.entries) below in
        let gone : min t.gone (entries_up_to t level) ≡ entries_up_to t level =
        omega (arith, k.passed level (entries_up_to t level) begins) in
        rw gone (keeps_cut a t level (entries_up_to t level) are begins k)
    go (inr above) =
        let all : entries_up_to t level ≡ length t.entries = get_or_past t.starts level (length t.entries) above in
        let entries : take (entries_up_to t level) t.entries ≡ t.entries = take_all (entries_up_to t level) t.entries
        (omega (arith, all)) in
        let starts : take level t.starts ≡ t.starts = take_all level t.starts above in
        let gone : min t.gone (entries_up_to t level) ≡ t.gone = omega (arith, are.gone, all) in
        rw (entries, starts, gone) k

-- ---- other clauses

-- two watched literals, by other names
guarded_named : (t : Trail) (first second one other : Lit) → one ≡ first → other ≡ second → AreGuarded t one other
    → AreGuarded t first second
guarded_named t first second one other same_first same_second g =
    subst (λ (l : Lit). AreGuarded t first l) same_second (subst (λ (l : Lit). AreGuarded t l other) same_first g)

guarded_before : (old : Arena) (t : Trail) (clause : ℕ) (lits : List Lit) (first second : Lit) → KeepsWatch old t
    → WasWatched old clause lits first second → AreGuarded t first second
guarded_before old t clause lits first second k was =
    guarded_named t first second was.watched.first was.watched.second was.is_first was.is_second (k.guarded clause was.watched)

-- a clause has left the watch lists
pub keeps_dropped : (old new : Arena) (clause : ℕ) (t : Trail) → new.clauses ≡ old.clauses
    → new.watchers ≡ map (filter (is_other clause)) old.watchers → KeepsWatch old t → KeepsWatch new t
keeps_dropped old new clause t clauses watchers k =
    record {
      passed = k.passed;
      guarded = λ number w. k.guarded number (was_watched old new clause clauses watchers number w);
    }

-- the added clause is guarded, if it is watched, and the others were
keeps_with_one_more : (old new : Arena) (lits : List Lit) (t : Trail) → HasAdded old new lits → KeepsWatch old t
    → ((first second : Lit) (rest : List Lit) → lits ≡ first ∷ second ∷ rest → AreGuarded t first second) → KeepsWatch new t
keeps_with_one_more old new lits t added k last =
    record { passed = k.passed; guarded = λ clause w. go clause w (cases_eq clause (length old.clauses)) }
  where
    go : (clause : ℕ) (w : IsWatched new clause) → (clause ≡ length old.clauses) ⊎ (clause ≡ length old.clauses → ⊥)
        → AreGuarded t w.first w.second
    go clause w (inl e) =
        let there : slice_get new.clauses clause ≡ Some lits = ap (slice_get new.clauses) e ∙ added_lits old new lits added in
        let same : w.lits ≡ lits = same_get new.clauses clause w.lits lits w.is_clause there in
        let two = two_at w.lits w.first w.second w.is_first w.is_second in
        last w.first w.second two.rest (sym same ∙ two.is)
    go clause w (inr differs) = guarded_before old t clause w.lits w.first w.second k
        (watched_before old new lits clause added differs w)

-- a clause whose first literal is open and then implied, and whose second is not false by what came before the current level
guarded_learned : (t : Trail) (first second : Lit) (clause : ℕ) → AreEntries t → IsOpen (lits_of t) first
    → ((i start : ℕ) → slice_get t.starts i ≡ Some start → Contains (take start (lits_of t)) (negation second) → ⊥)
    → AreGuarded (implied t first clause) first second
guarded_learned t first second clause are open_first not_false =
    record {
      at_present = record {
        first_false = λ c. absurd (none t.gone (omega (arith, are.gone, lits_length t)) c);
        second_false = λ c. subst (λ (ls : List Lit). Contains ls first) (sym seen) (Contains-push (lits_of t) first);
      };
      at_starts = λ i start is. record {
        first_false = λ c. absurd (none start (omega (arith, are.begun i start is, lits_length t)) c);
        second_false = λ c. absurd (not_false i start is
            (back start (omega (arith, are.begun i start is, lits_length t)) (negation second) c));
      };
    }
  where
    seen : lits_of (implied t first clause) ≡ lits_of t ++ first ∷ []
    seen = lits_push t.entries (record { lit = first; reason = Some clause })

    back : (n : ℕ) → n ≤ length (lits_of t) → (lit : Lit) → Contains (take n (lits_of (implied t first clause))) lit
        → Contains (take n (lits_of t)) lit
    back n h lit c =
        subst (λ (ls : List Lit). Contains ls lit) (ap (take n) seen ∙ take-append-le n (lits_of t) (first ∷ []) h) c

    none : (n : ℕ) → n ≤ length (lits_of t) → Contains (take n (lits_of (implied t first clause))) (negation first) → ⊥
    none n h c = open_first.not_false (from_front n (lits_of t) (negation first) (back n h (negation first) c))

pub keeps_learned : (old new : Arena) (lits : List Lit) (t : Trail) (lit : Lit) (clause : ℕ) → AreEntries t
    → slice_get lits 0 ≡ Some lit → HasAdded old new lits
    → IsDueTo t lits → KeepsWatch old t → KeepsWatch new (implied t lit clause)
keeps_learned old new lits t lit clause are head added due k =
    keeps_with_one_more old new lits (implied t lit clause) added (keeps_implied old t lit clause are k) last
  where
    last : (first second : Lit) (rest : List Lit) → lits ≡ first ∷ second ∷ rest → AreGuarded (implied t lit clause) first second
    last first second rest is =
        let same : first ≡ lit = same_Some first lit (ap (λ (ls : List Lit). slice_get ls 0) (sym is) ∙ head) in
        let d = due first second rest is in
        subst (λ (l : Lit). AreGuarded (implied t l clause) first second) same (guarded_learned t first second clause are d.0 d.1)

pub keeps_quiet : (old new : Arena) (lits : List Lit) (t : Trail) → AreEntries t → t.starts ≡ []
    → HasAdded old new lits → IsQuiet t lits → KeepsWatch old t
    → KeepsWatch new t
keeps_quiet old new lits t are starts added quiet k = keeps_with_one_more old new lits t added k
    (λ first second rest is. last first second (quiet first second rest is))
  where
    no_start : (i start : ℕ) → slice_get t.starts i ≡ Some start → ⊥
    no_start i start is = let none : slice_get [] i ≡ Some start = ap (λ (ss : List ℕ). slice_get ss i) (sym starts) ∙ is in cc

    last : (first second : Lit) → Contains (lits_of t) first ⊎ (IsOpen (lits_of t) first × IsOpen (lits_of t) second)
        → AreGuarded t first second
    last first second (inl holds) =
        record {
          at_present = record {
            first_false = λ c. absurd (lits_consistent t are first holds (from_front t.gone (lits_of t) (negation first) c));
            second_false = λ c. holds;
          };
          at_starts = λ i start is. absurd (no_start i start is);
        }
    last first second (inr both) =
        record {
          at_present = record {
            first_false = λ c. absurd (both.0.not_false (from_front t.gone (lits_of t) (negation first) c));
            second_false = λ c. absurd (both.1.not_false (from_front t.gone (lits_of t) (negation second) c));
          };
          at_starts = λ i start is. absurd (no_start i start is);
        }
