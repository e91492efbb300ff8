-- What is watched when a clause has left the watch lists.
use Rattle.std.proofs.Common.{◌≡◌, ◌∙◌, ℕ, List, length, map, not, slice_get, refl, sym, ap, subst}
use Rattle.std.specs.List.{filter}
use Rattle.std.proofs.lemmas.Bool.{ne_eqb}
use Rattle.std.proofs.lemmas.List.{length-map}
use Rattle.currency_base.specs.declared.lit.Lit.{Lit}
use Rattle.watch_links.specs.Links.{IsIn, list_of}
use Rattle.clause_arena.specs.Arenas.{Arena, IsWatched, is_other, place_of}
use Rattle.clause_arena.proofs.Halves.{list_map, in_filter, stays_in_filter}

module _ (old new : Arena) (clause : ℕ) (clauses : new.clauses ≡ old.clauses)
    (watchers : new.watchers ≡ map (filter (is_other clause)) old.watchers) where
  -- the watchers of a literal
  there : (lit : Lit) → list_of new.watchers (place_of lit) ≡ filter (is_other clause) (list_of old.watchers (place_of lit))
  there lit =
      ap (λ (ls : List (List ℕ)). list_of ls (place_of lit)) watchers
      ∙ list_map (filter (is_other clause)) refl old.watchers (place_of lit)

  pub stays : (lit : Lit) (number : ℕ) → (number ≡ clause → ⊥) → IsIn number (list_of old.watchers (place_of lit))
      → IsIn number (list_of new.watchers (place_of lit))
  stays lit number differs i =
      subst (IsIn number) (sym (there lit))
      (stays_in_filter (is_other clause) number (list_of old.watchers (place_of lit)) i (ap not (ne_eqb number clause differs)))

  pub stood : (lit : Lit) (number : ℕ) → IsIn number (list_of new.watchers (place_of lit))
      → IsIn number (list_of old.watchers (place_of lit))
  stood lit number i =
      (in_filter (is_other clause) number (list_of old.watchers (place_of lit)) (subst (IsIn number) (there lit) i)).0

  -- another clause is watched as before
  abbrev pub still_watched : (number : ℕ) → (number ≡ clause → ⊥) → IsWatched old number → IsWatched new number
  still_watched number differs w = record {
    lits = w.lits;
    is_clause = ap (λ (cs : List (List Lit)). slice_get cs number) clauses ∙ w.is_clause;
    first = w.first;
    second = w.second;
    is_first = w.is_first;
    is_second = w.is_second;
    by_first = stays w.first number differs w.by_first;
    by_second = stays w.second number differs w.by_second;
  }

  -- and what is watched was
  abbrev pub was_watched : (number : ℕ) → IsWatched new number → IsWatched old number
  was_watched number w = record {
    lits = w.lits;
    is_clause = ap (λ (cs : List (List Lit)). slice_get cs number) (sym clauses) ∙ w.is_clause;
    first = w.first;
    second = w.second;
    is_first = w.is_first;
    is_second = w.is_second;
    by_first = stood w.first number w.by_first;
    by_second = stood w.second number w.by_second;
  }

  pub as_many_lists : length new.watchers ≡ length old.watchers
  as_many_lists = ap length watchers ∙ length-map old.watchers (filter (is_other clause))
